mod NamePlaces
mod GrownPlaces
mod TakePlaces
mod ShownTakes
mod LookSteps
mod CountedRuns
