mod Common
mod ExactUpgrades
mod UpgradedFits
mod Nodes
mod Refusable
mod RefusedUpgrades
