-- The arguments, and how the program ends.
use Rattle.std.specs.Prelude.{ℕ, List, [], ◌∷◌, codes, Option, Some, None, Result, Ok, Err, if◌then◌else◌}
use Rattle.iddqd_text.specs.Texts.{is_text}
use Rattle.iddqd_text.specs.declared.outcome.Kind.{Kind}
use Rattle.iddqd_text.specs.declared.outcome.Kind.TheVariants.{Bi, Tri}
use Rattle.iddqd_text.specs.declared.outcome.RunEnd.{RunEnd}
use Rattle.iddqd_text.specs.declared.outcome.RunEnd.TheVariants.{Done, BadLine}
use Rattle.iddqd_text.specs.declared.outcome.RunFault.{RunFault}
use Rattle.iddqd_text.specs.declared.outcome.RunFault.TheVariants.{Read, Write, Memory}

-- the kind that the arguments ask for
abbrev pub kind_of : List (List ℕ) → Option Kind
kind_of (word ∷ []) =
    if is_text word (codes "bi") then Some Bi else
    if is_text word (codes "tri") then Some Tri else
    None
kind_of arguments = None

-- the exit status
abbrev pub status_of : Result RunEnd RunFault → ℕ
status_of (Ok Done) = 0
status_of (Ok (BadLine n)) = 2
status_of (Err fault) = 1

-- what is written to standard error
abbrev pub message_of : Result RunEnd RunFault → List ℕ
message_of (Ok end) = []
message_of (Err Read) = codes "fault: read"
message_of (Err Write) = codes "fault: write"
message_of (Err Memory) = codes "fault: memory"
