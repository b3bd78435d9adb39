mod Appending
mod Ending
mod Lines
mod Numerals
mod Outcomes
mod Pieces
mod Printing
mod ShownRuns
