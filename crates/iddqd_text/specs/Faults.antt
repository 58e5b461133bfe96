-- Which faults count as a read or a write that failed.
use Rattle.std.specs.Prelude.{◌+◌, ℕ, Result, Err}
use Rattle.iddqd_text.specs.declared.outcome.RunFault.{RunFault}
use Rattle.iddqd_text.specs.declared.outcome.RunFault.TheVariants.{Read, Write}

-- the number of reads that failed, after a run: one more at `Read` alone
abbrev pub reads_failed : {A : Type 0} → Result A RunFault → ℕ → ℕ
reads_failed (Err Read) failures = failures + 1
reads_failed ended failures = failures

-- the number of writes that failed, after a run: one more at `Write` alone
abbrev pub writes_failed : {A : Type 0} → Result A RunFault → ℕ → ℕ
writes_failed (Err Write) failures = failures + 1
writes_failed ended failures = failures
