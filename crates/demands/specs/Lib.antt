-- What is promised: the kinds of stream (Kinds), lists of calls (Chain), demand 1, demands 2 and 3
-- and what follows for whole lists (Demands), one rule undisturbed by the others (Alone), streams
-- of both kinds alike (Alike).
pub mod Kinds
pub mod Chain
pub mod Demand1
pub mod Demands
pub mod Alone
pub mod Alike
