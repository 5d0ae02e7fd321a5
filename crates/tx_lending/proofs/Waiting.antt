-- The stores of turns that wait are what waits at the places of their stored operands.
use Rattle.std.proofs.Common.{◌≡◌, ℕ, zero, suc, ◌+◌, ◌≤◌, Bool, true, false, List, [], ◌∷◌, ◌++◌, Option}
use Rattle.std.proofs.Common.{Some, None, refl, sym, ap, subst, ◌∙◌, arith, length, take, drop}
use Rattle.std.specs.Prelude.{◌||◌, nat_eq, cond, if◌then◌else◌}
use Rattle.std.specs.List.{filter}
use Rattle.std.proofs.lemmas.Bool.{true≢false}
use Rattle.std.proofs.lemmas.List.{length-drop}
use Rattle.std.proofs.lemmas.List.Folds.{list_any-append}
use Rattle.std.proofs.lemmas.List.Sums.{fold-append}
use Rattle.std.proofs.Math.Bool.{or-false}
use Rattle.z_regs.specs.Prefix.{absolute_of}
use Rattle.z_regs.specs.declared.ranges.Range.{Range}
use Rattle.z_instr.specs.declared.instr.Instr.{Instr}
use Rattle.z_effect.specs.Outcome.{Outcome, Did, Divides, Aborts}
use Rattle.z_effect.specs.Outcome as outcome
use Rattle.line_table.specs.declared.table.Mode.{Mode}
use Rattle.tx_control.specs.declared.begins.Begin.{Begin}
use Rattle.store_cache.specs.Overlay.{Overlay, Store, with_one}
use Rattle.tx_serial.specs.Fate.{Fate, Goes, Ends, Stops, Refusal, Excepts, Because, fate_after, operands}
use Rattle.tx_serial.specs.Fate.{fetch_refusal, instruction_at, first_refusal, unreadable}
use Rattle.z_touch.specs.Refusals.{at_fetch}
use Rattle.z_instr.specs.Roles.{begins}
use Rattle.z_instr.specs.Table.{entry_at}
use Rattle.tx_serial.specs.Flat.{Storage, stores_at, operand_stores, operand_bytes}
use Rattle.tx_serial.proofs.StoredBytes.{stored_size, length-operand_bytes, Fills, one_fills}
use Rattle.tx_progress.specs.Doing.{executed, executed_where}
use Rattle.tx_progress.specs.declared.done.Done.TheVariants.{Stepped}
use Rattle.tx_progress.specs.Local.{Local, Beside}
use Rattle.tx_progress.specs.Progress.{Progress, seen_through, is_live, laying}
use Rattle.tx_progress.specs.Trial.{at_hand, fetched, tried, tests_by, fate_by_progress, outcome_by}
use Rattle.tx_lending.specs.Away.{is_plain, lent_by, lent_turn, ran, GoesAway, GoAway}
use Rattle.tx_lending.specs.Places.{places_from, operand_places, stored_places, is_among}
use Rattle.tx_lending.specs.Stranger.{made_by, turn_waits, waiting, fate_waits_at, waits_at, only_at}
use Rattle.tx_lending.proofs.Along.{no_begin, fewer, last_one}
use Rattle.tx_lending.proofs.Strangers.{one_inside, waits_made}
use Rattle.tx_lending.proofs.Turning.{all_left}
use Rattle.tx_lending.proofs.Stores.{not_first, not_second}
use Rattle.tx_lending.proofs.Touching.{on}
use Rattle.tx_serial.proofs.TextStays.{or_first, or_second}

-- ---- an instruction goes with its own operands

abbrev HasItsOwn : Progress → Fate → Type 0
HasItsOwn q (Goes i ranges) = ranges ≡ operands i q.cpu
HasItsOwn q (Ends why) = Unit {0}
HasItsOwn q (Stops e) = Unit {0}

refused_own : (q : Progress) (nest : List Begin) (r : Refusal) → HasItsOwn q (fate_after nest r)
refused_own q [] (Excepts e) = tt
refused_own q [] (Because why) = tt
refused_own q (outermost ∷ inner) (Excepts e) = tt
refused_own q (outermost ∷ inner) (Because why) = tt

tried_own : (q : Progress) (i : Instr) (r : Option Refusal) → HasItsOwn q (tried q i r)
tried_own q i None = refl
tried_own q i (Some r) = refused_own q q.nest r

fetched_own : (text : List ℕ) (s : Storage) (q : Progress) (u : Option ℕ) (o : Option Instr)
    → HasItsOwn q (fetched text s q u o)
fetched_own text s q (Some code) o = refused_own q q.nest (Excepts (at_fetch code))
fetched_own text s q None None = refused_own q q.nest (Excepts (unreadable (at_hand s q)))
fetched_own text s q None (Some i) = tried_own q i (first_refusal (tests_by text s q i))

its_operands : (text : List ℕ) (s : Storage) (q : Progress) (i : Instr) (ranges : List Range)
    → fate_by_progress text s q ≡ Goes i ranges → ranges ≡ operands i q.cpu
unfolding fate_by_progress
its_operands text s q i ranges goes =
    subst (HasItsOwn q) goes
    (fetched_own text s q (fetch_refusal text (at_hand s q)) (instruction_at (at_hand s q)))

-- it leaves a byte for each place of those that are stored
fills : (s : Storage) (q : Progress) (i : Instr) (ranges : List Range) → ranges ≡ operands i q.cpu
    → Fills (stored_size ranges) (outcome_by s i ranges q)
fills s q i ranges e =
    subst (λ (rs : List Range). Fills (stored_size rs) (outcome_by s i rs q)) (sym e)
    (one_fills i q.cpu _ (operand_bytes q.cpu.prefix (seen_through q.overlay s) (operands i q.cpu))
    (length-operand_bytes q.cpu.prefix (seen_through q.overlay s) (operands i q.cpu)))

-- ---- stores over other stores

-- two parts of stores, one after the other
laying_both : (o : Overlay) (xs ys : List Store) → laying o (xs ++ ys) ≡ laying (laying o xs) ys
laying_both o xs ys = fold-append (λ o (x : Store). with_one o x.address x.byte) o xs ys

one_elsewhere : (o : Overlay) (place byte a : ℕ) → nat_eq a place ≡ false → with_one o place byte a ≡ o a
one_elsewhere o place byte a h = grind (arith, h)

one_here : (o : Overlay) (place byte a : ℕ) → nat_eq a place ≡ true → with_one o place byte a ≡ Some byte
one_here o place byte a h = grind (arith, h)

bytes_elsewhere : (prefix : Option ℕ) (n first : ℕ) (bytes : List ℕ) (o : Overlay) (a : ℕ)
    → is_among (places_from prefix first n) a ≡ false
    → laying o (stores_at prefix first (take n bytes)) a ≡ o a
bytes_elsewhere prefix zero first bytes o a h = refl
bytes_elsewhere prefix (suc n) first [] o a h = refl
bytes_elsewhere prefix (suc n) first (byte ∷ bytes) o a h =
    let p = absolute_of prefix first in
    let others = is_among (places_from prefix (suc first) n) a in
    bytes_elsewhere prefix n (suc first) bytes (with_one o p byte) a (or_second (nat_eq a p) others h)
    ∙ one_elsewhere o p byte a (or_first (nat_eq a p) others h)

-- where bytes are stored it does not matter what was there
bytes_there : (prefix : Option ℕ) (n first : ℕ) (bytes : List ℕ) (o other : Overlay) (a : ℕ) → n ≤ length bytes
    → is_among (places_from prefix first n) a ≡ true
    → laying o (stores_at prefix first (take n bytes)) a ≡ laying other (stores_at prefix first (take n bytes)) a
bytes_there prefix zero first bytes o other a enough h = absurd (true≢false (sym h))
bytes_there prefix (suc n) first [] o other a enough h = absurd (omega (arith, enough))
bytes_there prefix (suc n) first (byte ∷ bytes) o other a enough h =
    let p = absolute_of prefix first in
    by p (is_among (places_from prefix (suc first) n) a) refl h (bytes_there prefix n (suc first) bytes
    (with_one o p byte) (with_one other p byte) a (omega (arith, enough)))
    (λ (x : Overlay). bytes_elsewhere prefix n (suc first) bytes x a)
  where
    by : (p : ℕ) (among : Bool) → is_among (places_from prefix (suc first) n) a ≡ among
        → (nat_eq a p || among) ≡ true
        → (is_among (places_from prefix (suc first) n) a ≡ true
        → laying (with_one o p byte) (stores_at prefix (suc first) (take n bytes)) a
        ≡ laying (with_one other p byte) (stores_at prefix (suc first) (take n bytes)) a)
        → ((x : Overlay) → is_among (places_from prefix (suc first) n) a ≡ false
        → laying x (stores_at prefix (suc first) (take n bytes)) a ≡ x a)
        → laying (with_one o p byte) (stores_at prefix (suc first) (take n bytes)) a
        ≡ laying (with_one other p byte) (stores_at prefix (suc first) (take n bytes)) a
    by p true e k there elsewhere = there e
    by p false e k there elsewhere =
        let here : nat_eq a p ≡ true = sym (or-false (nat_eq a p)) ∙ k in
        elsewhere (with_one o p byte) e ∙ one_here o p byte a here
        ∙ sym (one_here other p byte a here) ∙ sym (elsewhere (with_one other p byte) e)

-- ---- the stores of operands

abbrev Elsewhere : List Range → Progress → ℕ → Type 0
Elsewhere ranges q a =
    (bytes : List ℕ) (o : Overlay) → is_among (stored_places ranges q) a ≡ false
    → laying o (operand_stores q.cpu.prefix ranges bytes) a ≡ o a

abbrev There : List Range → Progress → ℕ → Type 0
There ranges q a =
    (bytes : List ℕ) (o other : Overlay) → stored_size ranges ≤ length bytes
    → is_among (stored_places ranges q) a ≡ true
    → laying o (operand_stores q.cpu.prefix ranges bytes) a ≡ laying other (operand_stores q.cpu.prefix ranges bytes) a

abbrev stored_by : Bool → Range → List Range → Progress → List ℕ
stored_by stored r rs q = operand_places (cond stored (r ∷ filter (λ x. x.store) rs) (filter (λ x. x.store) rs)) q

abbrev stores_by : Bool → Range → List Range → Progress → List ℕ → List Store
stores_by stored r rs q bytes =
    cond stored
    (stores_at q.cpu.prefix r.first (take r.length bytes)
    ++ operand_stores q.cpu.prefix rs (drop r.length bytes))
    (operand_stores q.cpu.prefix rs bytes)

elsewhere_by : (stored : Bool) (r : Range) (rs : List Range) (q : Progress) (a : ℕ) → Elsewhere rs q a
    → (bytes : List ℕ) (o : Overlay) → is_among (stored_by stored r rs q) a ≡ false
    → laying o (stores_by stored r rs q bytes) a ≡ o a
elsewhere_by true r rs q a more bytes o h =
    let first = places_from q.cpu.prefix r.first r.length in
    let here = stores_at q.cpu.prefix r.first (take r.length bytes) in
    let rest = operand_stores q.cpu.prefix rs (drop r.length bytes) in
    ap (λ f. f a) (laying_both o here rest)
    ∙ more (drop r.length bytes) (laying o here) (not_second a first (stored_places rs q) h)
    ∙ bytes_elsewhere q.cpu.prefix r.length r.first bytes o a (not_first a first (stored_places rs q) h)
elsewhere_by false r rs q a more bytes o h = more bytes o h

elsewhere : (ranges : List Range) (q : Progress) (a : ℕ) → Elsewhere ranges q a
elsewhere [] q a = λ bytes o h. refl
elsewhere (r ∷ rs) q a = elsewhere_by r.store r rs q a (elsewhere rs q a)

there_by : (stored : Bool) (r : Range) (rs : List Range) (q : Progress) (a : ℕ) → There rs q a → Elsewhere rs q a
    → (bytes : List ℕ) (o other : Overlay) → cond stored r.length 0 + stored_size rs ≤ length bytes
    → is_among (stored_by stored r rs q) a ≡ true
    → laying o (stores_by stored r rs q bytes) a ≡ laying other (stores_by stored r rs q bytes) a
there_by true r rs q a there elsewhere bytes o other enough h =
    ap (λ f. f a) (laying_both o here rest)
    ∙ either (is_among (stored_places rs q) a) refl
    ∙ sym (ap (λ f. f a) (laying_both other here rest))
  where
    first : List ℕ
    first = places_from q.cpu.prefix r.first r.length

    here : List Store
    here = stores_at q.cpu.prefix r.first (take r.length bytes)

    rest : List Store
    rest = operand_stores q.cpu.prefix rs (drop r.length bytes)

    either : (b : Bool) → is_among (stored_places rs q) a ≡ b
        → laying (laying o here) rest a ≡ laying (laying other here) rest a
    either true e =
        there (drop r.length bytes) (laying o here) (laying other here)
        (let left = length-drop r.length bytes in omega (arith, enough, left)) e
    either false e =
        elsewhere (drop r.length bytes) (laying o here) e
        ∙ bytes_there q.cpu.prefix r.length r.first bytes o other a (omega (arith, enough))
        (sym (or-false (is_among first a)) ∙ ap (λ b. is_among first a || b) (sym e)
        ∙ sym (list_any-append (nat_eq a) first (stored_places rs q)) ∙ h)
        ∙ sym (elsewhere (drop r.length bytes) (laying other here) e)
there_by false r rs q a there elsewhere bytes o other enough h = there bytes o other (omega (arith, enough)) h

there : (ranges : List Range) (q : Progress) (a : ℕ) → There ranges q a
there [] q a = λ bytes o other enough h. absurd (true≢false (sym h))
there (r ∷ rs) q a = there_by r.store r rs q a (there rs q a) (elsewhere rs q a)

-- ---- those of an instruction

made_elsewhere : (o : Outcome) (ranges : List Range) (q : Progress) (waits : Overlay) (a : ℕ)
    → is_among (stored_places ranges q) a ≡ false → laying waits (made_by o ranges q) a ≡ waits a
made_elsewhere (Did c bytes) ranges q waits a h = elsewhere ranges q a bytes waits h
made_elsewhere (outcome.Overflowed c bytes) ranges q waits a h = elsewhere ranges q a bytes waits h
made_elsewhere Divides ranges q waits a h = refl
made_elsewhere (Aborts code) ranges q waits a h = refl

made_there : (i : Instr) (ranges : List Range) (l : Local) (s : Storage) (o : Outcome) (waits other : Overlay)
    (a : ℕ) → Fills (stored_size ranges) o → (executed_where true false i ranges (on l s) o).told ≡ Stepped
    → is_among (stored_places ranges l.attempt) a ≡ true
    → laying waits (made_by o ranges l.attempt) a ≡ laying other (made_by o ranges l.attempt) a
made_there i ranges l s (Did c bytes) waits other a enough told h =
    there ranges l.attempt a bytes waits other enough h
made_there i ranges l s (outcome.Overflowed c bytes) waits other a enough told h = absurd (cc)
made_there i ranges l s Divides waits other a enough told h = absurd (cc)
made_there i ranges l s (Aborts code) waits other a enough told h = absurd (cc)

told_inside : (i : Instr) (ranges : List Range) (l : Local) (s : Storage) → is_plain i ≡ true
    → is_live l.attempt ≡ true → (executed i ranges (on l s)).told ≡ Stepped
    → (executed_where true false i ranges (on l s) (outcome_by s i ranges l.attempt)).told ≡ Stepped
unfolding executed
told_inside i ranges l s plain live told =
    let o = outcome_by s i ranges l.attempt in
    let begin = begins (entry_at i.op.number) in
    ap (λ b. (executed_where true b i ranges (on l s) o).told) (sym (no_begin i plain))
    ∙ ap (λ b. (executed_where b begin i ranges (on l s) o).told) (sym live)
    ∙ told

-- ---- so many turns

marks_by : (old new : Bool) (w before o after : Option ℕ) → (new ≡ true → w ≡ after) → (new ≡ false → w ≡ before)
    → (new ≡ false → o ≡ after) → before ≡ (if old then o else None)
    → w ≡ (if old || new then after else None)
marks_by true true w before o after put kept same was = put refl
marks_by false true w before o after put kept same was = put refl
marks_by true false w before o after put kept same was = kept refl ∙ was ∙ same refl
marks_by false false w before o after put kept same was = kept refl ∙ was

module _ (text : List ℕ) (held : ℕ → Option Mode) (b : Beside) (live : is_live b.local.attempt ≡ true)
    (away : GoesAway text held b)
  where
    abbrev q : Progress
    q = b.local.attempt

    abbrev result : Outcome
    result = outcome_by b.storage away.instr away.ranges q

    abbrev made : List Store
    made = made_by result away.ranges q

    left_overlay : (lent_turn text b).local.attempt.overlay ≡ laying q.overlay made
    left_overlay =
        ap (λ f. (lent_by f b).local.attempt.overlay) away.goes
        ∙ (one_inside away.instr away.ranges b.local b.local b.storage b.storage q.overlay away.plain live
        (λ a m. refl) away.told).overlay

    places_are : fate_waits_at (fate_by_progress text b.storage q) q ≡ stored_places away.ranges q
    places_are =
        ap (λ f. fate_waits_at f q) away.goes ∙ ap (λ x. if x then stored_places away.ranges q else []) live

    pub waits_more : (later : Overlay) (marked : ℕ → Bool) (a : ℕ) → later a ≡ only_at marked q.overlay a
        → laying later (turn_waits text b) a
        ≡ only_at (λ a. marked a || is_among (fate_waits_at (fate_by_progress text b.storage q) q) a)
        (lent_turn text b).local.attempt.overlay a
    waits_more later marked a was =
        let enough = fills b.storage q away.instr away.ranges
        (its_operands text b.storage q away.instr away.ranges away.goes) in
        let told = told_inside away.instr away.ranges b.local b.storage away.plain live away.told in
        ap (λ x. laying later x a) (waits_made text held b live away)
        ∙ marks_by (marked a) (is_among (stored_places away.ranges q) a) (laying later made a) (later a) (q.overlay a)
        (laying q.overlay made a)
        (made_there away.instr away.ranges b.local b.storage result later q.overlay a enough told)
        (made_elsewhere result away.ranges q later a)
        (λ h. sym (made_elsewhere result away.ranges q q.overlay a h)) was
        ∙ ap (λ o. only_at (λ a. marked a || is_among (stored_places away.ranges q) a) o a) (sym left_overlay)
        ∙ ap (λ places. only_at (λ a. marked a || is_among places a) (lent_turn text b).local.attempt.overlay a)
        (sym places_are)

pub waits_so : (text : List ℕ) (held : ℕ → Option Mode) (k : ℕ) (b : Beside) (a : ℕ)
    → is_live b.local.attempt ≡ true → GoAway text held k b
    → waiting text k b a ≡ only_at (waits_at text k b) (ran text k b).local.attempt.overlay a
unfolding ran waiting waits_at
waits_so text held zero b a live away = refl
waits_so text held (suc k) b a live away =
    let before = fewer text held k b away in
    waits_more text held (ran text k b) ((all_left text held k b before).live ∙ live)
    (last_one text held k b away) (waiting text k b) (waits_at text k b) a (waits_so text held k b a live before)
