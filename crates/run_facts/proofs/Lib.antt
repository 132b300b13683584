pub mod NextSteps
pub mod StepKinds
pub mod SameMemories
pub mod SameValues
pub mod SameActs
pub mod CodeDoings
pub mod Blocks
pub mod Points
pub mod Numbers
pub mod Members
pub mod Statements
pub mod Touched
pub mod KeptMemories
pub mod KeptStates
pub mod WrittenCells
pub mod DoneStores
pub mod DoneSteps
pub mod GlobalVariables
pub mod OldBlocks
pub mod InCalls
pub mod CallTouched
pub mod CallersCalled
pub mod TypeTests
pub mod Subobjects
pub mod StandingCells
pub mod CellPaths
pub mod CellPlaces
pub mod WrittenStates
pub mod DenotedForms
pub mod SelectedPlaces
pub mod BackStates
pub mod ActCells
pub mod ActKills
pub mod KilledNames
pub mod ListedObjects
pub mod PointedObjects
pub mod ObjectValues
pub mod ObjectForms
pub mod IndexForms
pub mod MemberForms
pub mod ValueForms
pub mod BinaryForms
pub mod ChooseForms
pub mod SeenCells
pub mod LaterStates
pub mod BegunBlocks
pub mod ExprsDenoted
pub mod TypedStores
pub mod AssignedValues
pub mod TypedActs
pub mod TypedParts
pub mod TypedCalls
pub mod OpenedVariables
pub mod FixedValues
pub mod ZeroBlocks
pub mod TypedGlobals
pub mod TypedRuns
pub mod UsedExprs
pub mod CoveredRuns
pub mod UntestedForms
pub mod FittingRuns
pub mod PartsOfParts
pub mod PointedTypes
pub mod TypedPairs
mod LocationRows
mod SmallPointers
mod SmallTrees
mod SmallEffects
mod SmallTouches
mod SmallVertices
mod SmallPairs
