mod Theorem
mod Given
mod Columns
mod Reports
mod Conditions
mod Sets
mod Faults
mod Texts
