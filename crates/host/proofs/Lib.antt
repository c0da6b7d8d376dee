mod Allocation
mod Rows
