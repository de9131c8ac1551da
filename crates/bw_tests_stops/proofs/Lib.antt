mod Delivering
