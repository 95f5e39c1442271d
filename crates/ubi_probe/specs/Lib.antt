pub mod ChangingSource
pub mod ProbedSource
pub mod ProbedWriter
