-- The laws behind the proofs of the functions
pub mod ListChecks
pub mod OneOrder
pub mod AnswerBytes
pub mod OrdersInTurn
pub mod TreeLeftAlone
pub mod WholeList
pub mod AnswersFit
pub mod CaseI
