mod BagRows
mod BuildRows
mod ExtendUniqueRows
mod StepRows
mod TableRows
mod WrittenRows
