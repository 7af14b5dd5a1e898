pub mod IndexSets
