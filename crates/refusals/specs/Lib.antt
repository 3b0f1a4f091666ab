-- `Numbers`: the number of each refusal, what a call answers, and the laws that the number says which.
pub mod Numbers
