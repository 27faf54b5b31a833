-- The words of the laboratory's program, the lists of calls that it reads, and what its runs say.
pub mod CallLists
pub mod Faults
pub mod Lab
pub mod SessionForm
pub mod Waves
