use Rattle.std.proofs.Common.{◌≡◌, ℕ, ◌+◌, ◌≤◌, List, [], ◌∷◌, Some, subst, take, arith}
use Rattle.std.specs.List.{slice_index_or}
use Rattle.z_instr.specs.Computing.{reading_of}
use Rattle.z_instr.specs.Layout.{length_by}
use Rattle.z_instr.proofs.ComputedReading.{computes}
use Rattle.tx_private.proofs.known.known_at.Goals as goal

-- an instruction has six bytes at most
at_most_six : (n first : ℕ) → n ≡ length_by first → n ≤ 6
at_most_six n first e = grind arith

-- the first six bytes from a place on
abbrev six_from : List ℕ → ℕ → List ℕ
six_from s a =
    slice_index_or s a 0 ∷ slice_index_or s (a + 1) 0 ∷ slice_index_or s (a + 2) 0 ∷ slice_index_or s (a + 3) 0
    ∷ slice_index_or s (a + 4) 0 ∷ slice_index_or s (a + 5) 0 ∷ []

pub invariant_of-result-clause-short : goal.invariant_of-result-clause-short
invariant_of-result-clause-short c =
    at_most_six c.length_of-length.result (slice_index_or c.args.storage.now c.args.at 0) c.length_of-length.ensures

pub invariant_of-result-clause-reads : goal.invariant_of-result-clause-reads
invariant_of-result-clause-reads c =
    subst (λ n. reading_of (take n (six_from c.args.storage.now c.args.at)) ≡ Some c.in-Ok.instr) c.from.ensures
    (computes (take c.from.result (six_from c.args.storage.now c.args.at)) c.in-Ok.instr (c.in-Ok.ensures).found)
