-- What files tell, what a read of a named file gives, and how the counts of reads and faults go on.
use Rattle.std.specs.Prelude.{◌≡◌, ℕ, ◌+◌, ◌≤◌, take, List, Option, None, Some, Result, Ok, Err}
use Rattle.theory_meaning.specs.Faults.{one_more}
use Rattle.theory_edge.specs.declared.files.EndFault.{EndFault}
use Rattle.theory_edge.specs.declared.files.EndFault.TheVariants.{Failed, NoMemory}

-- the text under each name, where it is told
abbrev pub Texts : Type 0
Texts = Option (List ℕ → Option (List ℕ))

-- a name that was asked for, and the count of faults then
abbrev pub Asking : Type 0
Asking = Option (List ℕ × ℕ)

-- what files tell: their texts, how many reads were made, what was asked for last, and how often a read failed
pub record FilesTold : Type 0 where
  pub texts : Texts
  pub reads : ℕ
  pub asked : Asking
  pub faults : ℕ

-- where it is told, the front of the text under this name, at most one byte more than the limit
abbrev pub IsRead : Texts → List ℕ → ℕ → List ℕ → Type 0
IsRead None name limit bytes = Unit {0}
IsRead (Some told) name limit bytes =
    (text : List ℕ) × (told name ≡ Some text) × (bytes ≡ take (limit + 1) text)

-- the count of faults after this answer
abbrev pub faults_after : {T : Type 0} → ℕ → Result T EndFault → ℕ
faults_after before (Ok _) = before
faults_after before (Err Failed) = one_more before
faults_after before (Err NoMemory) = before

-- the files were read once, under this name, and tell the same texts as before
pub record ReadOnce (name : List ℕ) (before now : FilesTold) : Type 0 where
  pub same : now.texts ≡ before.texts
  pub once : now.reads ≡ one_more before.reads
  pub asked : now.asked ≡ Some (name, before.faults)
  pub later : before.faults ≤ now.faults
