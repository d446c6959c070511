pub mod RowTools
mod Rows
mod SectRows
pub mod StepRows
mod TreeRows
mod BoundNameRows
mod WholeRows
mod ExpansionRows
mod LabelRows
mod MacroCallRows
mod ChoiceRows
mod AttemptRows
mod MappedRows
mod ParameterRows
pub mod SectionCode
pub mod Trees
pub mod SystemStates
pub mod BoundKinds
pub mod LabelSections
pub mod MacroUse
pub mod Ends
pub mod Traces
