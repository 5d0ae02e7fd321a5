-- A cause moves a CPU on the ladder, step by step.
use Rattle.std.proofs.Common.{◌≡◌, ℕ, ◌+◌, Bool, true, false, refl, sym, ap}
use Rattle.std.specs.Prelude.{if◌then◌else◌, ◌==◌, List}
use Rattle.tx_control.specs.declared.causes.Why.{Why}
use Rattle.tx_control.specs.declared.causes.Why.TheVariants.{External, Program, FetchConflict}
use Rattle.tx_control.specs.declared.causes.Why.TheVariants.{StoreConflict, FetchOverflow, StoreOverflow}
use Rattle.tx_control.specs.declared.causes.Why.TheVariants.{Restricted, Filtered, Depth, Starved, Tabort}
use Rattle.tx_ladder.specs.Rungs.{Standing, next_rung, after_conflict, delay_after}
use Rattle.tx_ladder.specs.declared.ladder.Next.{Next}
use Rattle.tx_ladder.specs.declared.ladder.Next.TheVariants.{Plain, Delay, Queue}
use Rattle.tx_progress.specs.Local.{Beside}
use Rattle.tx_meaning.specs.Changes.{on_rung, without_head}
use Rattle.tx_keeping.specs.Kept.{Kept, with_state, with_standing}
use Rattle.tx_works.specs.declared.ending.Rung.TheVariants.{Climbs}
use Rattle.tx_works.specs.Ready.{MayClimb, MayEndBy}
use Rattle.tx_works.specs.Steps.{k_left, k_climbed, k_lowered, k_descended, rung_after}
use Rattle.tx_bounds.proofs.Walk.{IsOwn}

-- ---- a conflict

abbrev pub with_queue : List ℕ → Kept → Kept
with_queue queue k = with_state (record (k.state) { queue = queue }) k

pub climbed-by : (i : ℕ) (k : Kept) (n : Next) → n ≡ next_rung (k.standings i)
    → with_standing i (after_conflict (k.standings i)) (with_state (on_rung i n k.state) k) ≡ k_climbed i k
climbed-by i k n e =
    ap (λ (n : Next). with_standing i (after_conflict (k.standings i)) (with_state (on_rung i n k.state) k)) e

queued_by : (b q : Bool) (turns : ℕ) → Queue ≡ (if b then (if q then Queue else Delay turns) else Plain)
    → b ≡ true
queued_by true q turns e = refl
queued_by false q turns e = cc

pub queued-constrained : (st : Standing) → Queue ≡ next_rung st → st.constrained ≡ true
queued-constrained st e =
    queued_by st.constrained (st.aborts + 1 == st.parms.stop) (delay_after st.parms (st.aborts + 1)) e

-- ---- a constrained transaction is at its end

pub descended-there : (i : ℕ) (k : Kept) → (k.standings i).constrained ≡ true
    → with_queue (without_head i k.state.queue) (k_lowered i k) ≡ k_descended i k
descended-there i k e =
    ap (λ b. with_queue (if b then without_head i k.state.queue else k.state.queue) (k_lowered i k)) (sym e)

pub descended-not : (i : ℕ) (k : Kept) → (k.standings i).constrained ≡ false → k_lowered i k ≡ k_descended i k
descended-not i k e =
    ap (λ b. with_queue (if b then without_head i k.state.queue else k.state.queue) (k_lowered i k)) (sym e)

-- ---- a cause

pub may-climb : (why : Why) (k : Kept) (i : ℕ) → rung_after why ≡ Climbs → MayEndBy why k i → MayClimb k i
may-climb (FetchConflict line) k i e h = h
may-climb (StoreConflict line) k i e h = h
may-climb Starved k i e h = h
may-climb (Program x) k i e h = absurd (cc)
may-climb External k i e h = absurd (cc)
may-climb FetchOverflow k i e h = absurd (cc)
may-climb StoreOverflow k i e h = absurd (cc)
may-climb Restricted k i e h = absurd (cc)
may-climb (Filtered x) k i e h = absurd (cc)
may-climb Depth k i e h = absurd (cc)
may-climb (Tabort code) k i e h = absurd (cc)

pub may-end-own : (why : Why) (k : Kept) (i : ℕ) → IsOwn why → MayEndBy why k i
may-end-own (FetchConflict line) k i h = absurd h
may-end-own (StoreConflict line) k i h = absurd h
may-end-own Starved k i h = absurd h
may-end-own (Program x) k i h = tt
may-end-own External k i h = tt
may-end-own FetchOverflow k i h = tt
may-end-own StoreOverflow k i h = tt
may-end-own Restricted k i h = tt
may-end-own (Filtered x) k i h = tt
may-end-own Depth k i h = tt
may-end-own (Tabort code) k i h = tt

left_climbs : (i j : ℕ) (b : Beside) (k : Kept) → MayClimb k j → MayClimb (k_left i b k) j
left_climbs i j b k h = record { below = h.below; out = h.out }

pub may-end-left : (why : Why) (i j : ℕ) (b : Beside) (k : Kept) → MayEndBy why k j
    → MayEndBy why (k_left i b k) j
may-end-left (FetchConflict line) i j b k h = left_climbs i j b k h
may-end-left (StoreConflict line) i j b k h = left_climbs i j b k h
may-end-left Starved i j b k h = left_climbs i j b k h
may-end-left (Program x) i j b k h = tt
may-end-left External i j b k h = tt
may-end-left FetchOverflow i j b k h = tt
may-end-left StoreOverflow i j b k h = tt
may-end-left Restricted i j b k h = tt
may-end-left (Filtered x) i j b k h = tt
may-end-left Depth i j b k h = tt
may-end-left (Tabort code) i j b k h = tt
