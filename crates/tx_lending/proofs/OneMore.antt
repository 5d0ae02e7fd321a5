-- One instruction that is made away, on two storages in which its CPU sees the same operands.
use Rattle.std.proofs.Common.{◌≡◌, ℕ, ◌+◌, Bool, true, false, List, [], ◌∷◌, None}
use Rattle.std.proofs.Common.{refl, sym, ap, subst, ◌∙◌, arith}
use Rattle.std.specs.Prelude.{nat_lt, if◌then◌else◌, unwrap_or}
use Rattle.std.proofs.lemmas.Bool.{true≢false}
use Rattle.z_regs.specs.Cpu.{Cpu}
use Rattle.z_regs.specs.declared.ranges.Range.{Range}
use Rattle.z_instr.specs.declared.instr.Instr.{Instr}
use Rattle.z_instr.specs.Roles.{begins}
use Rattle.z_instr.specs.Table.{entry_at}
use Rattle.z_effect.specs.Outcome.{Outcome, Did, Divides, Aborts}
use Rattle.z_effect.specs.Outcome as outcome
use Rattle.tx_control.specs.declared.begins.Begin.{Begin}
use Rattle.store_cache.specs.Overlay.{Store, Overlay}
use Rattle.tx_serial.specs.Flat.{Storage, laid_over}
use Rattle.tx_serial.proofs.Copies.{laid_alike}
use Rattle.tx_progress.specs.Doing.{executed, executed_where, closed_by, stores_of}
use Rattle.tx_progress.specs.Local.{Local, Beside}
use Rattle.tx_progress.specs.Progress.{Progress, seen_through, is_live, advanced, laying}
use Rattle.tx_progress.specs.Trial.{outcome_by}
use Rattle.tx_progress.specs.declared.done.Done.TheVariants.{Stepped}
use Rattle.tx_progress.proofs.SeenStores.{laid_through}
use Rattle.tx_lending.specs.Away.{IsClear}
use Rattle.tx_lending.specs.Places.{operand_places, stored_places, is_among, LookAlike}
use Rattle.tx_lending.proofs.Stores.{stores_elsewhere}
use Rattle.tx_lending.proofs.Touching.{on, outcome_alike}

-- where the stores of an instruction go
abbrev pub stores_in : Bool → List Range → Progress → List ℕ
stores_in live ranges q = if live then [] else stored_places ranges q

-- What an instruction that is made away leaves of two storages: the same CPU; what was seen alike is seen alike, and
-- what was alike is alike; what is stored is alike; and all else is as it was.
pub record OneMore (live : Bool) (q : Progress) (ranges : List Range) (s t : Storage) (x y : Beside) : Type 0
  where
    pub local : y.local ≡ x.local
    pub seen : (a : ℕ) → seen_through q.overlay t a ≡ seen_through q.overlay s a
        → seen_through x.local.attempt.overlay y.storage a ≡ seen_through x.local.attempt.overlay x.storage a
    pub same : (a : ℕ) → t a ≡ s a → y.storage a ≡ x.storage a
    pub put : (a : ℕ) → is_among (stores_in live ranges q) a ≡ true
        → seen_through q.overlay t a ≡ seen_through q.overlay s a → y.storage a ≡ x.storage a
    pub kept : (a : ℕ) → is_among (stores_in live ranges q) a ≡ false → y.storage a ≡ t a
    pub clear : IsClear x.local.attempt

-- where no store waits, storage is what is seen
bare : (s t : Storage) (o : Overlay) (a : ℕ) → o a ≡ None → seen_through o t a ≡ seen_through o s a → t a ≡ s a
bare s t o a none h =
    sym (ap (λ x. unwrap_or x (t a)) none) ∙ h ∙ ap (λ x. unwrap_or x (s a)) none

-- ---- inside transactions

pub more_live : (n : ℕ) → nat_lt 0 (n + 1) ≡ true
more_live n = grind (arith)

seen_more : (s t : Storage) (o : Overlay) (stores : List Store) (a : ℕ)
    → seen_through o t a ≡ seen_through o s a
    → seen_through (laying o stores) t a ≡ seen_through (laying o stores) s a
seen_more s t o stores a h =
    sym (ap (λ f. f a) (laid_through stores o t))
    ∙ laid_alike stores (seen_through o s) (seen_through o t) a h
    ∙ ap (λ f. f a) (laid_through stores o s)

module _ (i : Instr) (ranges : List Range) (local : Local) (s t : Storage) where
  abbrev q : Progress
  q = local.attempt

  closed_more : (c : Cpu) (bytes : List ℕ) (nest : List Begin)
      → (closed_by (advanced i ranges c (stores_of ranges bytes q) q) nest (on local s)).told ≡ Stepped
      → OneMore true q ranges s t
      (closed_by (advanced i ranges c (stores_of ranges bytes q) q) nest (on local s)).after
      (closed_by (advanced i ranges c (stores_of ranges bytes q) q) nest (on local t)).after
  closed_more c bytes [] told = absurd (cc)
  closed_more c bytes (outermost ∷ inner) told = record {
    local = refl;
    seen = λ a h. seen_more s t q.overlay (stores_of ranges bytes q) a h;
    same = λ a e. e;
    put = λ a m h. absurd (true≢false (sym m));
    kept = λ a m. refl;
    clear = λ rests. absurd (true≢false (sym (more_live q.count) ∙ rests));
  }

  -- ---- outside transactions

  -- nothing is stored, and what is left of the CPU is clear
  nothing_more : (left : Local) → IsClear left.attempt → ((a : ℕ) → left.attempt.overlay a ≡ None)
      → ((a : ℕ) → q.overlay a ≡ None)
      → OneMore false q ranges s t (on left s) (on left t)
  nothing_more left clear none waits = record {
    local = refl;
    seen = λ a h. ap (λ x. unwrap_or x (t a)) (none a) ∙ bare s t q.overlay a (waits a) h
        ∙ sym (ap (λ x. unwrap_or x (s a)) (none a));
    same = λ a e. e;
    put = λ a m h. bare s t q.overlay a (waits a) h;
    kept = λ a m. refl;
    clear = clear;
  }

  stored_more : (left : Local) (bytes : List ℕ) → IsClear left.attempt
      → ((a : ℕ) → left.attempt.overlay a ≡ None) → ((a : ℕ) → q.overlay a ≡ None)
      → OneMore false q ranges s t (on left (laid_over s (stores_of ranges bytes q)))
      (on left (laid_over t (stores_of ranges bytes q)))
  stored_more left bytes clear none waits =
      let stores = stores_of ranges bytes q in
      record {
        local = refl;
        seen = λ a h. ap (λ x. unwrap_or x (laid_over t stores a)) (none a)
            ∙ laid_alike stores s t a (bare s t q.overlay a (waits a) h)
            ∙ sym (ap (λ x. unwrap_or x (laid_over s stores a)) (none a));
        same = λ a e. laid_alike stores s t a e;
        put = λ a m h. laid_alike stores s t a (bare s t q.overlay a (waits a) h);
        kept = λ a m. stores_elsewhere ranges q bytes t a m;
        clear = clear;
      }

  -- ---- by its outcome

  more_where : (live : Bool) (o : Outcome) → is_live q ≡ live → IsClear q
      → (executed_where live false i ranges (on local s) o).told ≡ Stepped
      → OneMore live q ranges s t (executed_where live false i ranges (on local s) o).after
      (executed_where live false i ranges (on local t) o).after
  more_where true (Did c bytes) is clear told =
      closed_more c bytes (advanced i ranges c (stores_of ranges bytes q) q).nest told
  more_where true (outcome.Overflowed c bytes) is clear told = absurd (cc)
  more_where true Divides is clear told = absurd (cc)
  more_where true (Aborts code) is clear told = absurd (cc)
  more_where false (Did c bytes) is clear told =
      stored_more _ bytes (λ rests a. refl) (λ a. refl) (clear is)
  more_where false (outcome.Overflowed c bytes) is clear told =
      stored_more _ bytes (λ rests a. refl) (λ a. refl) (clear is)
  more_where false Divides is clear told = nothing_more _ (λ rests a. refl) (λ a. refl) (clear is)
  more_where false (Aborts code) is clear told = nothing_more local clear (clear is) (clear is)

pub one_more : (i : Instr) (ranges : List Range) (local : Local) (s t : Storage) → IsClear local.attempt
    → begins (entry_at i.op.number) ≡ false
    → LookAlike (is_among (operand_places ranges local.attempt)) local.attempt.overlay s t
    → (executed i ranges (on local s)).told ≡ Stepped
    → OneMore (is_live local.attempt) local.attempt ranges s t (executed i ranges (on local s)).after
    (executed i ranges (on local t)).after
unfolding executed
one_more i ranges local s t clear none h told =
    let q = local.attempt in
    let live = is_live q in
    let o = outcome_by s i ranges q in
    let by : (b : Bool) → b ≡ false → (executed_where live b i ranges (on local s) o).told ≡ Stepped
    → OneMore live q ranges s t (executed_where live b i ranges (on local s) o).after
    (executed_where live b i ranges (on local t) o).after =
    λ b e. subst (λ (b : Bool). (executed_where live b i ranges (on local s) o).told ≡ Stepped
    → OneMore live q ranges s t (executed_where live b i ranges (on local s) o).after
    (executed_where live b i ranges (on local t) o).after) (sym e)
    (more_where i ranges local s t live o refl clear) in
    subst (λ (p : Outcome). OneMore live q ranges s t
    (executed_where live (begins (entry_at i.op.number)) i ranges (on local s) o).after
    (executed_where live (begins (entry_at i.op.number)) i ranges (on local t) p).after)
    (sym (outcome_alike i ranges q s t h))
    (by (begins (entry_at i.op.number)) none told)
