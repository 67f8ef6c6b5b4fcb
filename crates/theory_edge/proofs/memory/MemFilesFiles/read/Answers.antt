use Rattle.theory_edge.proofs.memory.MemFilesFiles.read.Goals as goal

pub returns-clause-fails : goal.returns-clause-fails
returns-clause-fails c =
    rw (← c.self.view_is, ← c.saturating_add-self-inside.ensures, ← c.as_bytes.ensures.value) c.answer-answer.ensures.fails
