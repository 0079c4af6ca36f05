-- What the contract of worked_numbers cites.
pub mod Table
