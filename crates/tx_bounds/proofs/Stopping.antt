-- The CPUs of the stop queue are those whose conflict aborts have come to the stop, in every event.
use Rattle.std.proofs.Common.{◌≡◌, ◌≢◌, ℕ, zero, suc, ◌+◌, ◌<◌, ◌≤◌, Bool, true, false, List, [], ◌∷◌}
use Rattle.std.proofs.Common.{◌++◌, length, get_or, refl, sym, ap, ◌∙◌, subst, arith, inl, inr}
use Rattle.std.specs.Prelude.{◌==◌, ◌||◌, ◌⊎◌, if◌then◌else◌, AllPairs}
use Rattle.std.proofs.lemmas.Bool.{cases_eq, eqb-true, eqb-false, ne_eqb, eq-eqb, or_cases, or_left, or_right, false_from_ne_true}
use Rattle.std.proofs.lemmas.Bool.{or_parts, or_from}
use Rattle.std.proofs.lemmas.List.Folds.{list_any-append}
use borrow.Enum.Arm.{by_way}
use Rattle.tx_ladder.specs.Waiting.{waits_in}
use Rattle.tx_meaning.specs.State.{is_first}
use Rattle.tx_meaning.specs.Changes.{without_head, head_to_tail}

-- ---- lists

unfoldable pub Once : List ℕ → Type 0
Once [] = Unit {0}
Once (x ∷ rest) = (waits_in rest x ≡ false) × Once rest

pub never_both : (b : Bool) → b ≡ true → b ≡ false → ⊥
never_both b here gone = let n : true ≡ false = sym here ∙ gone in cc

pub or_last : (a b : Bool) → (a || (b || false)) ≡ (b || a)
or_last true true = refl
or_last true false = refl
or_last false true = refl
or_last false false = refl

in_joined : (q : List ℕ) (j x : ℕ) → waits_in (q ++ j ∷ []) x ≡ ((j == x) || waits_in q x)
in_joined q j x = list_any-append (λ k. k == x) q (j ∷ []) ∙ or_last (waits_in q x) (j == x)

once_joined : (q : List ℕ) (j : ℕ) → Once q → waits_in q j ≡ false → Once (q ++ j ∷ [])
unfolding Once
once_joined [] j once out = (refl, tt)
once_joined (x ∷ rest) j once out =
    let parts = or_parts (x == j) (waits_in rest j) out in
    let apart : (j == x) ≡ false = ne_eqb j x (λ e. eqb-false x j parts.0 (sym e)) in
    (in_joined rest j x ∙ or_from (j == x) (waits_in rest x) apart once.0, once_joined rest j once.1 parts.1)

pub once_pairs : (q : List ℕ) → Once q → AllPairs ◌≢◌ q
unfolding Once
once_pairs [] once i j d lt lo = absurd (omega arith)
once_pairs (x ∷ rest) once i zero d lt lo = absurd (omega arith)
once_pairs (x ∷ rest) once zero (suc j) d lt lo =
    let less : j < length rest = omega arith in
    λ e. apart_from rest x once.0 j d less (sym e)
  where
    apart_from : (q : List ℕ) (x : ℕ) → waits_in q x ≡ false → (j d : ℕ) → j < length q → get_or q j d ≡ x → ⊥
    apart_from [] x out j d lo e = absurd (omega arith)
    apart_from (y ∷ q) x out zero d lo e = eqb-false y x (or_parts (y == x) (waits_in q x) out).0 e
    apart_from (y ∷ q) x out (suc j) d lo e =
        let less : j < length q = omega arith in
        apart_from q x (or_parts (y == x) (waits_in q x) out).1 j d less e
once_pairs (x ∷ rest) once (suc i) (suc j) d lt lo =
    let before : i < j = omega arith in
    let less : j < length rest = omega arith in
    once_pairs rest once.1 i j d before less

-- ---- the head leaves

left_other_by : (head : ℕ) (rest : List ℕ) (i x : ℕ) (b : Bool) → (head == i) ≡ b → x ≢ i
    → waits_in (if b then rest else head ∷ rest) x ≡ waits_in (head ∷ rest) x
left_other_by head rest i x true e ne =
    let off : head ≢ x = λ same. ne (sym same ∙ eqb-true head i e) in
    sym (ap (λ b. b || waits_in rest x) (ne_eqb head x off))
left_other_by head rest i x false e ne = refl

left_other : (q : List ℕ) (i x : ℕ) → x ≢ i → waits_in (without_head i q) x ≡ waits_in q x
left_other [] i x ne = refl
left_other (head ∷ rest) i x ne = left_other_by head rest i x (head == i) refl ne

left_own_by : (head : ℕ) (rest : List ℕ) (i : ℕ) (b : Bool) → (head == i) ≡ b → waits_in rest head ≡ false
    → (waits_in (head ∷ rest) i ≡ true → (head == i) ≡ true)
    → waits_in (if b then rest else head ∷ rest) i ≡ false
left_own_by head rest i true e out own = subst (λ k. waits_in rest k ≡ false) (eqb-true head i e) out
left_own_by head rest i false e out own =
    false_from_ne_true (waits_in (head ∷ rest) i) (λ in_it. never_both (head == i) (own in_it) e)

left_own : (q : List ℕ) (i : ℕ) → Once q → (waits_in q i ≡ true → is_first i q ≡ true)
    → waits_in (without_head i q) i ≡ false
unfolding Once
left_own [] i once own = refl
left_own (head ∷ rest) i once own = left_own_by head rest i (head == i) refl once.0 own

left_once_by : (head : ℕ) (rest : List ℕ) (b : Bool) → Once (head ∷ rest) → Once (if b then rest else head ∷
    rest)
unfolding Once
left_once_by head rest true once = once.1
left_once_by head rest false once = once

left_once : (q : List ℕ) (i : ℕ) → Once q → Once (without_head i q)
left_once [] i once = once
left_once (head ∷ rest) i once = left_once_by head rest (head == i) once

-- ---- the head goes last

last_has_by : (head : ℕ) (rest : List ℕ) (x : ℕ) (b : Bool)
    → waits_in (if b then rest ++ head ∷ [] else head ∷ rest) x ≡ waits_in (head ∷ rest) x
last_has_by head rest x true = in_joined rest head x
last_has_by head rest x false = refl

last_has : (q : List ℕ) (i x : ℕ) → waits_in (head_to_tail i q) x ≡ waits_in q x
last_has [] i x = refl
last_has (head ∷ rest) i x = last_has_by head rest x (head == i)

last_once_by : (head : ℕ) (rest : List ℕ) (b : Bool) → Once (head ∷ rest)
    → Once (if b then rest ++ head ∷ [] else head ∷ rest)
unfolding Once
last_once_by head rest true once = once_joined rest head once.1 once.0
last_once_by head rest false once = once

last_once : (q : List ℕ) (i : ℕ) → Once q → Once (head_to_tail i q)
last_once [] i once = once
last_once (head ∷ rest) i once = last_once_by head rest (head == i) once

last_first_by : (head : ℕ) (rest : List ℕ) (i x : ℕ) (b : Bool) → (head == i) ≡ b → (head == x) ≡ true → x ≢ i
    → is_first x (if b then rest ++ head ∷ [] else head ∷ rest) ≡ true
last_first_by head rest i x true e first ne = absurd (ne (sym (eqb-true head x first) ∙ eqb-true head i e))
last_first_by head rest i x false e first ne = first

last_first : (q : List ℕ) (i x : ℕ) → is_first x q ≡ true → x ≢ i → is_first x (head_to_tail i q) ≡ true
last_first [] i x first ne = first
last_first (head ∷ rest) i x first ne = last_first_by head rest i x (head == i) refl first ne

pub first_joined : (q : List ℕ) (j x : ℕ) → is_first x q ≡ true → is_first x (q ++ j ∷ []) ≡ true
first_joined [] j x first = let n : false ≡ true = first in cc
first_joined (head ∷ rest) j x first = first

pub first_same : (q : List ℕ) (x y : ℕ) → is_first x q ≡ true → is_first y q ≡ true → x ≡ y
first_same [] x y first other = let n : false ≡ true = first in cc
first_same (head ∷ rest) x y first other = sym (eqb-true head x first) ∙ eqb-true head y other

-- ---- conflict aborts and the queue

-- none has more than the stop, and those with so many are the CPUs of the queue, each once in it
pub record Counted (stop : ℕ) (aborts : ℕ → ℕ) (queue : List ℕ) : Type 0 where
  pub few : (x : ℕ) → aborts x ≤ stop
  pub queued : (x : ℕ) → waits_in queue x ≡ true → aborts x ≡ stop
  pub at_stop : (x : ℕ) → aborts x ≡ stop → waits_in queue x ≡ true
  pub once : Once queue

-- one CPU's count changed
pub record ChangedAt (i : ℕ) (before after : ℕ → ℕ) (value : ℕ) : Type 0 where
  pub here : after i ≡ value
  pub others : (x : ℕ) → x ≢ i → after x ≡ before x

module _ (stop : ℕ) (f g : ℕ → ℕ) (queue : List ℕ) (c : Counted stop f queue) where
  pub counted_same : ((x : ℕ) → g x ≡ f x) → Counted stop g queue
  counted_same same = record {
    few = λ x. let e = same x in let few = c.few x in omega arith;
    queued = λ x in_it. same x ∙ c.queued x in_it;
    at_stop = λ x full. c.at_stop x (sym (same x) ∙ full);
    once = c.once;
  }

  pub counted_joined : (j : ℕ) → ChangedAt j f g stop → waits_in queue j ≡ false
      → Counted stop g (queue ++ j ∷ [])
  counted_joined j change out = record {
    few = λ x. by_way (cases_eq x j)
        (λ e. let h : g x ≡ stop = ap g e ∙ change.here in omega arith)
        (λ ne. let e = change.others x ne in let few = c.few x in omega arith);
    queued = λ x in_it. by_way (cases_eq x j)
        (λ e. ap g e ∙ change.here)
        (λ ne.
        let off : j ≢ x = λ e. ne (sym e) in
        let was : waits_in queue x ≡ true =
        sym (ap (λ b. b || waits_in queue x) (ne_eqb j x off)) ∙ sym (in_joined queue j x) ∙ in_it in
        change.others x ne ∙ c.queued x was);
    at_stop = λ x full. by_way (cases_eq x j)
        (λ e. in_joined queue j x ∙ or_left (j == x) (waits_in queue x) (eq-eqb j x (sym e)))
        (λ ne.
        in_joined queue j x
        ∙ or_right (j == x) (waits_in queue x) (c.at_stop x (sym (change.others x ne) ∙ full)));
    once = once_joined queue j c.once out;
  }

  pub counted_waiting : (j n : ℕ) → ChangedAt j f g n → n < stop → waits_in queue j ≡ false
      → Counted stop g queue
  counted_waiting j n change less out = record {
    few = λ x. by_way (cases_eq x j)
        (λ e. let h : g x ≡ n = ap g e ∙ change.here in omega arith)
        (λ ne. let e = change.others x ne in let few = c.few x in omega arith);
    queued = λ x in_it. by_way (cases_eq x j)
        (λ e. absurd (never_both (waits_in queue j) (ap (waits_in queue) (sym e) ∙ in_it) out))
        (λ ne. change.others x ne ∙ c.queued x in_it);
    at_stop = λ x full. by_way (cases_eq x j)
        (λ e. let h : g x ≡ n = ap g e ∙ change.here in absurd (omega arith))
        (λ ne. c.at_stop x (sym (change.others x ne) ∙ full));
    once = c.once;
  }

  pub counted_left : (i : ℕ) → ChangedAt i f g 0 → 0 < stop → (waits_in queue i ≡ true → is_first i queue ≡
      true)
      → Counted stop g (without_head i queue)
  counted_left i change some own = record {
    few = λ x. by_way (cases_eq x i)
        (λ e. let h : g x ≡ 0 = ap g e ∙ change.here in omega arith)
        (λ ne. let e = change.others x ne in let few = c.few x in omega arith);
    queued = λ x in_it. by_way (cases_eq x i)
        (λ e. absurd (never_both (waits_in (without_head i queue) i)
        (ap (waits_in (without_head i queue)) (sym e) ∙ in_it) (left_own queue i c.once own)))
        (λ ne. change.others x ne ∙ c.queued x (sym (left_other queue i x ne) ∙ in_it));
    at_stop = λ x full. by_way (cases_eq x i)
        (λ e. let h : g x ≡ 0 = ap g e ∙ change.here in absurd (omega arith))
        (λ ne. left_other queue i x ne ∙ c.at_stop x (sym (change.others x ne) ∙ full));
    once = left_once queue i c.once;
  }

  pub counted_last : (i : ℕ) → ((x : ℕ) → g x ≡ f x) → Counted stop g (head_to_tail i queue)
  counted_last i same = record {
    few = λ x. let e = same x in let few = c.few x in omega arith;
    queued = λ x in_it. same x ∙ c.queued x (sym (last_has queue i x) ∙ in_it);
    at_stop = λ x full. last_has queue i x ∙ c.at_stop x (sym (same x) ∙ full);
    once = last_once queue i c.once;
  }

-- ---- who has live attempts

-- between events: in the queue, the head alone
pub record Stopping (stop : ℕ) (aborts : ℕ → ℕ) (queue : List ℕ) (live : ℕ → Bool) : Type 0 where
  pub counted : Counted stop aborts queue
  pub behind : (x : ℕ) → waits_in queue x ≡ true → live x ≡ true → is_first x queue ≡ true

-- in a turn of CPU i: in the queue, that CPU alone, and only as the head
pub record Turning (stop : ℕ) (aborts : ℕ → ℕ) (queue : List ℕ) (live : ℕ → Bool) (i : ℕ) : Type 0 where
  pub counted : Counted stop aborts queue
  pub others : (x : ℕ) → waits_in queue x ≡ true → live x ≡ true → x ≡ i
  pub own : waits_in queue i ≡ true → is_first i queue ≡ true

-- what becomes of a count and of the queue behind a conflict abort
pub data Climb (stop aborts : ℕ) (queue : List ℕ) (i : ℕ) (after : ℕ) (later : List ℕ) : Type 0 where
  Plain : after ≡ aborts → later ≡ queue → Climb stop aborts queue i after later
  Waits : aborts + 1 ≢ stop → after ≡ aborts + 1 → later ≡ queue → Climb stop aborts queue i after later
  Joins : aborts + 1 ≡ stop → after ≡ aborts + 1 → later ≡ queue ++ i ∷ []
      → Climb stop aborts queue i after later

module _ (stop : ℕ) (f : ℕ → ℕ) (queue : List ℕ) (c : Counted stop f queue) where
  -- the count of a CPU outside the queue climbs
  pub counted_climbed : (g : ℕ → ℕ) (j n : ℕ) (later : List ℕ) → ChangedAt j f g n
      → waits_in queue j ≡ false → Climb stop (f j) queue j n later → Counted stop g later
  counted_climbed g j n later change out (Plain same q) =
      subst (Counted stop g) (sym q)
      (counted_same stop f g queue c (λ x. by_way (cases_eq x j)
      (λ e. ap g e ∙ change.here ∙ same ∙ ap f (sym e)) (λ ne. change.others x ne)))
  counted_climbed g j n later change out (Waits off up q) =
      let few = c.few j in
      let rise : n ≡ f j + 1 = up in
      let apart : f j + 1 ≢ stop = off in
      let short : f j ≢ stop = λ e. never_both (waits_in queue j) (c.at_stop j e) out in
      let less : n < stop = omega arith in
      subst (Counted stop g) (sym q) (counted_waiting stop f g queue c j n change less out)
  counted_climbed g j n later change out (Joins full up q) =
      let at : g j ≡ stop = change.here ∙ up ∙ full in
      subst (Counted stop g) (sym q)
      (counted_joined stop f g queue c j (record { here = at; others = change.others }) out)

  climbed_in : (j n x : ℕ) (later : List ℕ) → Climb stop (f j) queue j n later → waits_in later x ≡ true
      → (waits_in queue x ≡ true) ⊎ (x ≡ j)
  climbed_in j n x later (Plain same q) in_it = inl (ap (λ l. waits_in l x) (sym q) ∙ in_it)
  climbed_in j n x later (Waits off up q) in_it = inl (ap (λ l. waits_in l x) (sym q) ∙ in_it)
  climbed_in j n x later (Joins full up q) in_it =
      by_way (or_cases (j == x) (waits_in queue x) (sym (in_joined queue j x) ∙ ap (λ l. waits_in l x) (sym
      q) ∙ in_it))
      (λ e. inr (sym (eqb-true j x e))) (λ was. inl was)

  climbed_first : (j n x : ℕ) (later : List ℕ) → Climb stop (f j) queue j n later → is_first x queue ≡ true
      → is_first x later ≡ true
  climbed_first j n x later (Plain same q) first = ap (is_first x) q ∙ first
  climbed_first j n x later (Waits off up q) first = ap (is_first x) q ∙ first
  climbed_first j n x later (Joins full up q) first = ap (is_first x) q ∙ first_joined queue j x first

module _ (stop : ℕ) (f : ℕ → ℕ) (queue : List ℕ) (live : ℕ → Bool) (i : ℕ) (t : Turning stop f queue live i)
  where
    pub turning_same : (g : ℕ → ℕ) (lives : ℕ → Bool) → ((x : ℕ) → g x ≡ f x)
        → ((x : ℕ) → lives x ≡ true → live x ≡ true) → Turning stop g queue lives i
    turning_same g lives same less = record {
      counted = counted_same stop f g queue t.counted same;
      others = λ x in_it lx. t.others x in_it (less x lx);
      own = t.own;
    }

    -- a live attempt of another CPU is aborted by a conflict
    pub turning_aborted : (g : ℕ → ℕ) (lives : ℕ → Bool) (j n : ℕ) (later : List ℕ) → j ≢ i → live j ≡ true
        → ChangedAt j f g n → Climb stop (f j) queue j n later → lives j ≡ false
        → ((x : ℕ) → lives x ≡ true → live x ≡ true) → Turning stop g later lives i
    turning_aborted g lives j n later other lj change climb dead less =
        let out : waits_in queue j ≡ false =
        false_from_ne_true (waits_in queue j) (λ in_it. other (t.others j in_it lj)) in
        record {
          counted = counted_climbed stop f queue t.counted g j n later change out climb;
          others = λ x in_it lx.
              by_way (climbed_in stop f queue t.counted j n x later climb in_it)
              (λ was. t.others x was (less x lx))
              (λ e. absurd (never_both (lives j) (ap lives (sym e) ∙ lx) dead));
          own = λ in_it.
              by_way (climbed_in stop f queue t.counted j n i later climb in_it)
              (λ was. climbed_first stop f queue t.counted j n i later climb (t.own was))
              (λ e. absurd (other (sym e)));
        }

    -- the turn is over
    pub stopping_same : (g : ℕ → ℕ) (lives : ℕ → Bool) → ((x : ℕ) → g x ≡ f x)
        → ((x : ℕ) → lives x ≡ true → (live x ≡ true) ⊎ (x ≡ i)) → Stopping stop g queue lives
    stopping_same g lives same less = record {
      counted = counted_same stop f g queue t.counted same;
      behind = λ x in_it lx.
          let is : x ≡ i = by_way (less x lx) (λ l. t.others x in_it l) (λ e. e) in
          subst (λ k. is_first k queue ≡ true) (sym is) (t.own (ap (waits_in queue) (sym is) ∙ in_it));
    }

    -- the attempt of the CPU is aborted by a conflict, outside the queue
    pub stopping_starved : (g : ℕ → ℕ) (lives : ℕ → Bool) (n : ℕ) (later : List ℕ) → is_first i queue ≡ false
        → ChangedAt i f g n → Climb stop (f i) queue i n later → lives i ≡ false
        → ((x : ℕ) → lives x ≡ true → live x ≡ true) → Stopping stop g later lives
    stopping_starved g lives n later behind_it change climb dead less =
        let out : waits_in queue i ≡ false =
        false_from_ne_true (waits_in queue i) (λ in_it. never_both (is_first i queue) (t.own in_it) behind_it) in
        let never : (x : ℕ) → waits_in later x ≡ true → lives x ≡ true → ⊥ =
        λ x in_it lx.
        let is : x ≡ i =
        by_way (climbed_in stop f queue t.counted i n x later climb in_it) (λ was. t.others x was (less x lx))
        (λ e. e) in
        never_both (lives i) (ap lives (sym is) ∙ lx) dead in
        record {
          counted = counted_climbed stop f queue t.counted g i n later change out climb;
          behind = λ x in_it lx. absurd (never x in_it lx);
        }

    -- its constrained transaction is at its end
    pub stopping_left : (g : ℕ → ℕ) (lives : ℕ → Bool) → ChangedAt i f g 0 → 0 < stop → lives i ≡ false
        → ((x : ℕ) → lives x ≡ true → live x ≡ true) → Stopping stop g (without_head i queue) lives
    stopping_left g lives change some dead less =
        let never : (x : ℕ) → waits_in (without_head i queue) x ≡ true → lives x ≡ true → ⊥ =
        λ x in_it lx.
        let ne : x ≢ i = λ e. never_both (lives i) (ap lives (sym e) ∙ lx) dead in
        ne (t.others x (sym (left_other queue i x ne) ∙ in_it) (less x lx)) in
        record {
          counted = counted_left stop f g queue t.counted i change some t.own;
          behind = λ x in_it lx. absurd (never x in_it lx);
        }

module _ (stop : ℕ) (f : ℕ → ℕ) (queue : List ℕ) (live : ℕ → Bool) (s : Stopping stop f queue live) where
  -- an interruption from outside
  pub stopping_last : (g : ℕ → ℕ) (lives : ℕ → Bool) (i : ℕ) → ((x : ℕ) → g x ≡ f x) → lives i ≡ false
      → ((x : ℕ) → lives x ≡ true → live x ≡ true) → Stopping stop g (head_to_tail i queue) lives
  stopping_last g lives i same dead less = record {
    counted = counted_last stop f g queue s.counted i same;
    behind = λ x in_it lx.
        let ne : x ≢ i = λ e. never_both (lives i) (ap lives (sym e) ∙ lx) dead in
        last_first queue i x (s.behind x (sym (last_has queue i x) ∙ in_it) (less x lx)) ne;
  }

  -- a turn begins: the queue is empty, or the CPU is its head
  pub turning_begun : (i : ℕ) → (queue ≡ []) ⊎ (is_first i queue ≡ true) → Turning stop f queue live i
  turning_begun i may = record {
    counted = s.counted;
    others = λ x in_it lx.
        by_way may
        (λ none. let n : false ≡ true = ap (λ q. waits_in q x) (sym none) ∙ in_it in cc)
        (λ first. first_same queue x i (s.behind x in_it lx) first);
    own = λ in_it.
        by_way may (λ none. let n : false ≡ true = ap (λ q. waits_in q i) (sym none) ∙ in_it in cc) (λ first.
        first);
  }
