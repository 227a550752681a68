mod Paths
mod Tables
