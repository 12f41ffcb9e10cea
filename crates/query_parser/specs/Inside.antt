-- What contracts of private calls alone say: no contract of a public call rests on it.
pub mod Fronts
pub mod Steps
pub mod LeafSteps
pub mod ExpressionSteps
pub mod AtomSteps
pub mod PredicateSteps
pub mod GroupSteps
pub mod KeySteps
pub mod QuerySteps
pub mod Stops
