-- The entries that an event adds, and a CPU that is in the middle of no constrained transaction.
use Rattle.std.proofs.Common.{◌≡◌, ℕ, ◌+◌, ◌≤◌, Bool, true, false, List, [], ◌∷◌, ◌++◌, length, drop}
use Rattle.std.proofs.Common.{refl, sym, ap, ◌∙◌, arith, inl, inr, length-append, append-nil, append_assoc}
use Rattle.std.specs.Prelude.{◌⊎◌, ◌||◌, ◌&&◌, ◌==◌, nat_lt, if◌then◌else◌}
use Rattle.std.specs.List.{list_any}
use Rattle.std.proofs.lemmas.Bool.{true≢false}
use Rattle.std.proofs.lemmas.List.Folds.{list_any-append}
use borrow.Enum.Arm.{by_way}
use Rattle.tx_control.specs.declared.causes.Why.{Why}
use Rattle.tx_control.specs.declared.causes.Why.TheVariants.{External, Program, FetchConflict}
use Rattle.tx_control.specs.declared.causes.Why.TheVariants.{StoreConflict, FetchOverflow, StoreOverflow}
use Rattle.tx_control.specs.declared.causes.Why.TheVariants.{Restricted, Filtered, Depth, Starved, Tabort}
use Rattle.tx_ladder.specs.Rungs.{Standing, descended}
use Rattle.tx_journal.specs.declared.entries.Entry.{Entry}
use Rattle.tx_journal.specs.declared.entries.Entry.TheVariants.{Abort}
use Rattle.tx_meaning.specs.State.{State, is_live}
use Rattle.tx_meaning.specs.Stretches.{is_end_by, is_end_of, ends_transaction}
use Rattle.tx_meaning.specs.Changes.{without_attempt, aborting}
use Rattle.tx_meaning.proofs.Walk.{cause_case}
use Rattle.tx_keeping.specs.Kept.{Kept}
use Rattle.tx_keeping.specs.Moves.{k_aborting, standing_after}
use Rattle.std.proofs.Math.Bool.{and-false}

-- ---- entries

pub aborted_history : (i : ℕ) (st : Standing) (n : ℕ) (w : Why) (s : State)
    → (aborting i st n w s).history ≡ s.history ++ Abort i n w ∷ []
unfolding aborting
aborted_history i st n w s =
    ap (λ h. h ++ Abort i n w ∷ [])
    (cause_case (λ r. r.history ≡ s.history) i st w (without_attempt i s) refl (λ d. refl) refl refl)

-- none of those that came since ends a transaction of the CPU
pub record NoEnd (c : ℕ) (before now : List Entry) : Type 0 where
  pub entries : List Entry
  pub is : now ≡ before ++ entries
  pub none : list_any (is_end_of c) entries ≡ false

pub no_news : (c : ℕ) (h : List Entry) → NoEnd c h h
no_news c h = record { entries = []; is = sym (append-nil h); none = refl }

pub same_news : {c : ℕ} {before now later : List Entry} → later ≡ now → NoEnd c before now
    → NoEnd c before later
same_news same n = record { entries = n.entries; is = same ∙ n.is; none = n.none }

neither : (a b : Bool) → a ≡ false → b ≡ false → (a || (b || false)) ≡ false
neither a b e f = λ i. e i || (f i || false)

pub one_more : {c : ℕ} {before now later : List Entry} (e : Entry) → is_end_of c e ≡ false
    → later ≡ now ++ e ∷ []
    → NoEnd c before now → NoEnd c before later
one_more {c} {before} e off is n = record {
  entries = n.entries ++ e ∷ [];
  is = is ∙ ap (λ h. h ++ e ∷ []) n.is ∙ append_assoc before n.entries (e ∷ []);
  none = list_any-append (is_end_of c) n.entries (e ∷ [])
      ∙ neither (list_any (is_end_of c) n.entries) (is_end_of c e) n.none off;
}

pub grown : {c : ℕ} {before now : List Entry} → NoEnd c before now → length before ≤ length now
grown {c} {before} n =
    let e = ap length n.is in
    let sum = length-append before n.entries in
    omega (arith, e, sum)

dropped : (h es : List Entry) → drop (length h) (h ++ es) ≡ es
dropped [] es = refl
dropped (x ∷ h) es = dropped h es

pub not_ended : (c : ℕ) (before now : State) → NoEnd c before.history now.history
    → ends_transaction before now c ≡ false
not_ended c before now n =
    ap (λ h. list_any (is_end_of c) (drop (length before.history) h)) n.is
    ∙ ap (list_any (is_end_of c)) (dropped before.history n.entries) ∙ n.none

-- an abort that is no program interruption is no end
pub abort_news : {c : ℕ} {before : List Entry} (j : ℕ) (w : Why) (at : ℕ) (k : Kept) → is_end_by w ≡ false
    → NoEnd c before k.state.history → NoEnd c before (k_aborting j w at k).state.history
unfolding k_aborting
abort_news {c} {before} j w at k off n =
    let count = (k.locals j).attempt.count in
    one_more (Abort j count w) (ap (λ b. (j == c) && b) off ∙ and-false (j == c))
    (aborted_history j (k.standings j) count w k.state) n

-- ---- no constrained transaction

-- no conflict abort is counted, and a live attempt is not constrained
pub record Calm (c : ℕ) (k : Kept) : Type 0 where
  pub none : (k.standings c).aborts ≡ 0
  pub free : is_live k.state c ≡ true → (k.standings c).constrained ≡ false

-- a constrained attempt has started
pub record IsBegun (c : ℕ) (before : State) (t : Kept) : Type 0 where
  pub more : nat_lt (before.numbers c).attempts (t.state.numbers c).attempts ≡ true
  pub live : is_live t.state c ≡ true
  pub kind : (t.standings c).constrained ≡ true

-- what is so of a CPU behind the end of a transaction, and where none was under way
pub record Settles (c : ℕ) (busy : Bool) (before : State) (t : Kept) : Type 0 where
  pub ended : ends_transaction before t.state c ≡ true → Calm c t
  pub calm : busy ≡ false → Calm c t ⊎ IsBegun c before t

pub settles_on : (c : ℕ) (busy : Bool) (before : State) (t : Kept) → NoEnd c before.history t.state.history
    → (busy ≡ false → Calm c t) → Settles c busy before t
settles_on c busy before t news calm = record {
  ended = λ is. absurd (true≢false (sym is ∙ not_ended c before t.state news));
  calm = λ off. inl (calm off);
}

pub settles_calm : (c : ℕ) (busy : Bool) (before : State) (t : Kept) → Calm c t → Settles c busy before t
settles_calm c busy before t calm = record { ended = λ is. calm; calm = λ off. inl calm }

-- behind an abort: it was constrained and a program interruption, or no conflict abort was counted
lowered : (b : Bool) (st : Standing) → (b ≡ true) ⊎ (st.aborts ≡ 0)
    → (if b then descended st else st).aborts ≡ 0
lowered true st h = refl
lowered false st h = by_way h (λ is. absurd (true≢false (sym is))) (λ none. none)

pub lowered_calm : (st : Standing) → (st.constrained ≡ true) ⊎ (st.aborts ≡ 0)
    → (if st.constrained then descended st else st).aborts ≡ 0
lowered_calm st h = lowered st.constrained st h

uncounted : (st : Standing) → st.constrained ≡ false
    → (if st.constrained then st.aborts + 1 else st.aborts) ≡ st.aborts
uncounted st off = ap (λ b. if b then st.aborts + 1 else st.aborts) off

pub standing_calm : (w : Why) (st : Standing) → st.aborts ≡ 0 → st.constrained ≡ false
    → (standing_after w st).aborts ≡ 0
standing_calm (FetchConflict line) st none off = uncounted st off ∙ none
standing_calm (StoreConflict line) st none off = uncounted st off ∙ none
standing_calm Starved st none off = uncounted st off ∙ none
standing_calm (Program e) st none off = lowered_calm st (inr none)
standing_calm External st none off = none
standing_calm FetchOverflow st none off = none
standing_calm StoreOverflow st none off = none
standing_calm Restricted st none off = none
standing_calm (Filtered e) st none off = none
standing_calm Depth st none off = none
standing_calm (Tabort code) st none off = none

pub standing_ended : (w : Why) (st : Standing) → is_end_by w ≡ true
    → (st.constrained ≡ true) ⊎ (st.aborts ≡ 0)
    → (standing_after w st).aborts ≡ 0
standing_ended (Program e) st is h = lowered_calm st h
standing_ended w st is h = absurd (true≢false (sym is))
