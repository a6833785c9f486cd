pub mod BelowPorts
