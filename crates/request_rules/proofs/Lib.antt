mod DressingLaws
mod PageLaws
mod TakenLaws
mod WorkedExamples
