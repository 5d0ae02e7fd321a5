-- Flat states of parts: one CPU has other parts, and a CPU at rest is followed.
use Rattle.std.proofs.Common.{◌≡◌, ℕ, zero, suc, Bool, true, false, List, [], ◌∷◌}
use Rattle.std.proofs.Common.{refl, sym, ap, ◌∙◌, arith, length}
use Rattle.std.specs.Prelude.{if◌then◌else◌, ◌==◌, ◌+◌, nat_lt}
use Rattle.z_effect.specs.One.{length_of}
use Rattle.std.proofs.lemmas.Bool.{true≢false}
use Rattle.z_regs.specs.Cpu.{Cpu}
use Rattle.z_regs.specs.declared.ranges.Range.{Range}
use Rattle.z_instr.specs.declared.instr.Instr.{Instr}
use Rattle.tx_control.specs.declared.begins.Begin.{Begin}
use Rattle.tx_constraint.specs.Constraints.{Step}
use Rattle.tx_serial.specs.Attempt.{Open}
use Rattle.tx_serial.specs.Flat.{FlatState, at_put}
use Rattle.tx_serial.specs.Fate.{fate}
use Rattle.tx_serial.specs.Run.{run, may_follow, outcome_of}
use Rattle.tx_serial.proofs.Entries.{at_put_same}
use Rattle.tx_progress.specs.Followed.{flat_after}
use Rattle.tx_progress.specs.Local.{Local, Beside}
use Rattle.tx_progress.specs.Progress.{resting, is_live, resumed_after, begins_constrained}
use Rattle.tx_progress.specs.Reached.{progress_of, IsFollowed}
use Rattle.tx_progress.proofs.OneMore.{starts, counts, open_is_there}
use Rattle.tx_progress.specs.Trial.{fate_by_progress, outcome_by}
use Rattle.tx_progress.proofs.Fates.{fate_is, outcome_is}
use Rattle.tx_progress.proofs.Standing.{Stands, run_stands}

-- ---- tables of parts

pub put_part : {A : Type 0} (part : Local → A) (locals : ℕ → Local) (i : ℕ) (l : Local)
    → at_put (λ j. part (locals j)) i (part l) ≡ (λ j. part (at_put locals i l j))
put_part part locals i l k j = by (j == i) k
  where
    by : (b : Bool) → (if b then part l else part (locals j)) ≡ part (if b then l else locals j)
    by true = refl
    by false = refl

pub same_part : {A : Type 0} (part : Local → A) (locals : ℕ → Local) (i : ℕ) (l : Local)
    → part l ≡ part (locals i)
    → ◌≡◌ {A = ℕ → A} (λ j. part (locals j)) (λ j. part (at_put locals i l j))
same_part part locals i l e k j = by (j == i) refl k
  where
    by : (b : Bool) → (j == i) ≡ b → part (locals j) ≡ part (if b then l else locals j)
    by true h = let same : j ≡ i = grind (arith, h) in ap (λ n. part (locals n)) same ∙ sym e
    by false h = refl

pub put_twice : {A : Type 0} (table : ℕ → A) (i : ℕ) (x y : A) → at_put (at_put table i x) i y ≡ at_put table
    i y
put_twice table i x y k j = by (j == i) k
  where
    by : (b : Bool) → (if b then y else (if b then x else table j)) ≡ (if b then y else table j)
    by true = refl
    by false = refl

-- ---- a CPU at rest

pub not_live : (n : ℕ) → nat_lt 0 n ≡ false → n ≡ 0
not_live zero h = refl
not_live (suc n) h = let e : nat_lt 0 (suc n) ≡ true = grind (arith) in absurd (true≢false (sym e ∙ h))

-- where nothing is live, the progress is that of the CPU at rest
pub rests : (f : FlatState) (i : ℕ) (local : Local) → IsFollowed f i local → is_live local.attempt ≡ false
    → local.attempt ≡ resting local.cpu
rests f i local is h =
    sym is.attempt
    ∙ ap (λ n. progress_of (run f i n)) (not_live local.attempt.count h)
    ∙ starts f i
    ∙ ap resting is.cpu

at_rest_open : (f : FlatState) (i : ℕ) → (run f i 0).mark ≡ Open
unfolding run
at_rest_open f i = refl

pub followed_at_rest : (f : FlatState) (i : ℕ) (local : Local) → f.cpus i ≡ local.cpu
    → f.pending i ≡ local.pending → f.waiting i ≡ local.waiting → local.attempt ≡ resting local.cpu
    → IsFollowed f i local
followed_at_rest f i local cpu pending waiting e =
    let none : local.attempt.count ≡ 0 = ap (λ q. q.count) e in
    record {
      cpu = cpu;
      pending = pending;
      waiting = waiting;
      attempt = ap (λ n. progress_of (run f i n)) none ∙ starts f i ∙ ap resting cpu ∙ sym e;
      opens = ap (λ n. (run f i n).mark) none ∙ at_rest_open f i;
      acts = λ live. absurd (true≢false (sym live ∙ ap (λ n. nat_lt 0 n) none));
    }

-- what a CPU is left at rest is followed
pub left_at_rest : (text : List ℕ) (locals : ℕ → Local) (i : ℕ) (after : Beside)
    → after.local.attempt ≡ resting after.local.cpu → IsFollowed (flat_after text locals i after) i
    after.local
left_at_rest text locals i after e =
    let here = at_put_same locals i after.local in
    followed_at_rest (flat_after text locals i after) i after.local (ap (λ l. l.cpu) here)
    (ap (λ l. l.pending) here) (ap (λ l. l.waiting) here) e

-- ---- a live attempt

follows_by : (c now : Cpu) (steps : List Step) (nest : List Begin) (i : Instr) (k : ℕ)
    → Stands c now steps nest
    → length steps ≡ k → nat_lt 0 k ≡ true → may_follow nest i ≡ true
follows_by c now [] [] i k h e some = absurd (true≢false (sym some ∙ ap (λ n. nat_lt 0 n) (sym e)))
follows_by c now [] (b ∷ bs) i k h e some = absurd h
follows_by c now (s ∷ ss) [] i k h e some = absurd h
follows_by c now (s ∷ ss) (b ∷ bs) i k h e some = refl

-- every instruction may follow in it
pub live_follows : (f : FlatState) (i k : ℕ) (instr : Instr) → (run f i k).mark ≡ Open → nat_lt 0 k ≡ true
    → may_follow (run f i k).nest instr ≡ true
live_follows f i k instr opens some =
    follows_by (f.cpus i) (run f i k).cpu (run f i k).steps (run f i k).nest instr k (run_stands f i k opens)
    (counts f i k (open_is_there (run f i k).mark opens)) some

-- ---- what is told of the next instruction

pub followed_fate : (f : FlatState) (i : ℕ) (local : Local) → IsFollowed f i local
    → fate f.text (run f i local.attempt.count) ≡ fate_by_progress f.text f.storage local.attempt
followed_fate f i local is =
    fate_is f i local.attempt.count is.opens ∙ ap (fate_by_progress f.text f.storage) is.attempt

pub followed_outcome : (f : FlatState) (i : ℕ) (local : Local) (instr : Instr) (ranges : List Range)
    → IsFollowed f i local
    → outcome_of instr ranges (run f i local.attempt.count) ≡ outcome_by f.storage instr ranges local.attempt
followed_outcome f i local instr ranges is =
    outcome_is f i local.attempt.count instr ranges ∙ ap (outcome_by f.storage instr ranges) is.attempt

-- that run, where nothing is live
pub quiet_run : (f : FlatState) (i : ℕ) (local : Local) → is_live local.attempt ≡ false
    → run f i 0 ≡ run f i local.attempt.count
quiet_run f i local h = sym (ap (run f i) (not_live local.attempt.count h))

-- ---- behind an abort

-- a live attempt goes on where it did
pub resumes_stays : (count at old : ℕ) (i : Instr) → nat_lt 0 count ≡ true → resumed_after count i at old ≡ old
resumes_stays count at old i h =
    ap (λ b. if b then old else (if begins_constrained i then at else at + length_of i)) h
