mod Recounting
mod RunLaws
mod RemovedHosts
