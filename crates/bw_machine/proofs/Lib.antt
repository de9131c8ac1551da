mod OpenedServers
