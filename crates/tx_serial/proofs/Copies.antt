-- Copies of storage, the stores that made them, and what stays the same along a run.
use Rattle.std.proofs.Common.{◌≡◌, ℕ, zero, suc, Bool, true, false, List, [], ◌∷◌, ◌++◌, Option, refl, sym}
use Rattle.std.proofs.Common.{ap, ◌∙◌}
use Rattle.std.specs.Prelude.{◌||◌, if◌then◌else◌, ◌==◌}
use Rattle.std.specs.List.{list_any}
use Rattle.std.proofs.lemmas.Bool.{or_left, or_right, true≢false}
use Rattle.std.proofs.lemmas.List.Folds.{list_any-append}
use Rattle.z_instr.specs.Table.{entry_at}
use Rattle.z_regs.specs.declared.image.RunState.{RunState}
use Rattle.z_regs.specs.declared.ranges.Range.{Range}
use Rattle.z_instr.specs.declared.instr.Instr.{Instr}
use Rattle.z_effect.specs.Outcome.{Outcome, Did, Divides, Aborts}
use Rattle.z_effect.specs.Outcome as outcome
use Rattle.z_effect.proofs.Lasting.{lasts}
use Rattle.store_cache.specs.Overlay.{Store}
use Rattle.tx_serial.specs.Flat.{Storage, FlatState, at_put, laid_over, operand_stores}
use Rattle.tx_serial.specs.Attempt.{Run, Mark, Open, Committed, Overflowed, Missing}
use Rattle.tx_serial.specs.Fate.{Fate, Goes, Ends, Stops, fate}
use Rattle.tx_serial.specs.Run.{run, more, more_of, after_fate, after_where, after, may_follow, outcome_of}
use Rattle.tx_serial.specs.Run.{lasting_of}
use Rattle.tx_serial.proofs.Lasting.{run_lasts}
use Rattle.z_instr.specs.Roles.{stores_lastingly}

-- ---- stores

pub laid_twice : (xs ys : List Store) (s : Storage) → laid_over s (xs ++ ys) ≡ laid_over (laid_over s xs) ys
unfolding laid_over
laid_twice [] ys s = refl
laid_twice (x ∷ xs) ys s = laid_twice xs ys (at_put s x.address x.byte)

-- a byte that is the same before stores is the same after them
pub laid_alike : (stores : List Store) (s t : Storage) (a : ℕ) → t a ≡ s a → laid_over t stores a
    ≡ laid_over s stores a
unfolding laid_over
laid_alike [] s t a e = e
laid_alike (x ∷ rest) s t a e =
    laid_alike rest (at_put s x.address x.byte) (at_put t x.address x.byte) a
    (ap (λ v. if a == x.address then x.byte else v) e)

-- ---- the copy

abbrev HasCopy : Storage → Run → Type 0
HasCopy base p = p.copy ≡ laid_over base p.stores

-- the stores of an instruction
abbrev new : Run → List Range → List ℕ → List Store
new p ranges bytes = operand_stores p.cpu.prefix ranges bytes

copy_after : (base : Storage) (i : Instr) (ranges : List Range) (p : Run) (o : Outcome) → HasCopy base p
    → HasCopy base (after i ranges p o)
copy_after base i ranges p (Did c bytes) e = ap (λ s. laid_over s (new p ranges bytes)) e
    ∙ sym (laid_twice p.stores (new p ranges bytes) base)
copy_after base i ranges p (outcome.Overflowed c bytes) e = ap (λ s. laid_over s (new p ranges bytes)) e
    ∙ sym (laid_twice p.stores (new p ranges bytes) base)
copy_after base i ranges p Divides e = e
copy_after base i ranges p (Aborts code) e = e

copy_where : (base : Storage) (b : Bool) (i : Instr) (ranges : List Range) (p : Run) → HasCopy base p
    → HasCopy base (after_where b i ranges p)
copy_where base true i ranges p e = copy_after base i ranges p (outcome_of i ranges p) e
copy_where base false i ranges p e = e

copy_fate : (base : Storage) (o : Fate) (p : Run) → HasCopy base p → HasCopy base (after_fate o p)
copy_fate base (Goes i ranges) p e = copy_where base (may_follow p.nest i) i ranges p e
copy_fate base (Ends why) p e = e
copy_fate base (Stops x) p e = e

copy_more : (base : Storage) (m : Mark) (text : List ℕ) (p : Run) → HasCopy base p
    → HasCopy base (more_of m text p)
copy_more base Open text p e = copy_fate base (fate text p) p e
copy_more base Committed text p e = e
copy_more base Overflowed text p e = e
copy_more base Missing text p e = e

pub run_copy : (f : FlatState) (i k : ℕ) → (run f i k).copy ≡ laid_over f.storage (run f i k).stores
unfolding run more laid_over
run_copy f i zero = refl
run_copy f i (suc k) = copy_more f.storage (run f i k).mark f.text (run f i k) (run_copy f i k)

-- ---- the prefix

pub run_prefix : (f : FlatState) (i k : ℕ) → (run f i k).cpu.prefix ≡ (f.cpus i).prefix
run_prefix f i k =
    let Same : RunState → Option ℕ → Type 0 = λ state prefix. prefix ≡ (f.cpus i).prefix in
    run_lasts Same (λ text p instr ranges follows goes. lasts Same instr p.cpu _ _ (λ service h. h)) f i k refl

-- ---- the stores of NTSTG

-- a test that one of them passes is passed by one of all stores
abbrev AreAmong : (Store → Bool) → Run → Type 0
AreAmong test p = list_any test p.lasting ≡ true → list_any test p.stores ≡ true

more_of_both : (test : Store → Bool) (some all new_some new_all : List Store)
    → (list_any test some ≡ true → list_any test all ≡ true)
    → (list_any test new_some ≡ true → list_any test new_all ≡ true)
    → list_any test (some ++ new_some) ≡ true → list_any test (all ++ new_all) ≡ true
more_of_both test some all new_some new_all old new h =
    list_any-append test all new_all
    ∙ either (list_any test some) (list_any test new_some) (sym (list_any-append test some new_some)
    ∙ h) old new
  where
    either : (a b : Bool) → (a || b) ≡ true → (a ≡ true → list_any test all ≡ true)
        → (b ≡ true → list_any test new_all ≡ true) → (list_any test all || list_any test new_all) ≡ true
    either true b h old new = or_left (list_any test all) (list_any test new_all) (old refl)
    either false b h old new = or_right (list_any test all) (list_any test new_all) (new h)

among_itself : (test : Store → Bool) (b : Bool) (stores : List Store)
    → list_any test (if b then stores else []) ≡ true → list_any test stores ≡ true
among_itself test true stores h = h
among_itself test false stores h = absurd (true≢false (sym h))

lasting_after : (test : Store → Bool) (i : Instr) (ranges : List Range) (p : Run) (o : Outcome)
    → AreAmong test p → AreAmong test (after i ranges p o)
lasting_after test i ranges p (Did c bytes) old =
    more_of_both test p.lasting p.stores (lasting_of i (new p ranges bytes)) (new p ranges bytes) old
    (among_itself test (stores_lastingly (entry_at i.op.number)) (new p ranges bytes))
lasting_after test i ranges p (outcome.Overflowed c bytes) old =
    more_of_both test p.lasting p.stores (lasting_of i (new p ranges bytes)) (new p ranges bytes) old
    (among_itself test (stores_lastingly (entry_at i.op.number)) (new p ranges bytes))
lasting_after test i ranges p Divides old = old
lasting_after test i ranges p (Aborts code) old = old

lasting_where : (test : Store → Bool) (b : Bool) (i : Instr) (ranges : List Range) (p : Run)
    → AreAmong test p → AreAmong test (after_where b i ranges p)
lasting_where test true i ranges p old = lasting_after test i ranges p (outcome_of i ranges p) old
lasting_where test false i ranges p old = old

lasting_fate : (test : Store → Bool) (o : Fate) (p : Run) → AreAmong test p → AreAmong test (after_fate o p)
lasting_fate test (Goes i ranges) p old = lasting_where test (may_follow p.nest i) i ranges p old
lasting_fate test (Ends why) p old = old
lasting_fate test (Stops x) p old = old

lasting_more : (test : Store → Bool) (m : Mark) (text : List ℕ) (p : Run) → AreAmong test p
    → AreAmong test (more_of m text p)
lasting_more test Open text p old = lasting_fate test (fate text p) p old
lasting_more test Committed text p old = old
lasting_more test Overflowed text p old = old
lasting_more test Missing text p old = old

pub run_lasting : (test : Store → Bool) (f : FlatState) (i k : ℕ) → AreAmong test (run f i k)
unfolding run more
run_lasting test f i zero = λ h. h
run_lasting test f i (suc k) = lasting_more test (run f i k).mark f.text (run f i k) (run_lasting test f i k)
