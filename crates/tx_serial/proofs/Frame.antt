-- A private run depends on the bytes that it touches, and on the text pages, alone.
use Rattle.std.proofs.Common.{◌≡◌, ◌≢◌, ℕ, zero, suc, Bool, true, false, List, [], ◌∷◌, ◌++◌, Option, Some}
use Rattle.std.proofs.Common.{None, refl, sym, ap, subst, ◌∙◌, arith, length}
use Rattle.std.specs.Prelude.{◌||◌, ◌&&◌, ◌%◌, not, map, if◌then◌else◌, nat_eq, nat_lt}
use Rattle.std.specs.List.{list_any}
use Rattle.std.proofs.lemmas.Bool.{or_left, or_right}
use Rattle.std.proofs.lemmas.List.Folds.{list_any-append}
use Rattle.std.proofs.lemmas.List.Concat.{flat_map-append}
use Rattle.z_regs.specs.Prefix.{absolute_of}
use Rattle.z_regs.specs.declared.ranges.Range.{Range}
use Rattle.z_instr.specs.declared.instr.Instr.{Instr}
use Rattle.z_instr.specs.Computing.{reading_of}
use Rattle.z_instr.specs.Layout.{length_by}
use Rattle.z_instr.specs.Operands.{from_up, where_wrong, specification, addressing, protection, operation}
use Rattle.z_instr.specs.Access.{accessible_pages, text_pages, lies_in, byte_unfetched, first_some, unfetched}
use Rattle.z_effect.specs.Outcome.{Outcome, Did, Divides, Aborts}
use Rattle.z_effect.specs.Outcome as outcome
use Rattle.z_instr.specs.Table.{kind_at}
use Rattle.z_effect.specs.One.{one, length_of}
use Rattle.tx_control.specs.declared.causes.Why.{Why}
use Rattle.tx_constraint.specs.Constraints.{Step}
use Rattle.tx_serial.specs.Flat.{Storage, FlatState, laid_over, bytes_seen, operand_bytes}
use Rattle.tx_serial.specs.Attempt.{Run, Mark, Open, Committed, Overflowed, Missing, missing, at_rest}
use Rattle.tx_serial.specs.Fate.{Fate, Goes, Ends, Stops, Excepts, fate, fate_after, fate_by}
use Rattle.tx_serial.specs.Fate.{instruction_at, length_at, step_of, cause_in}
use Rattle.z_effect.specs.After.{exception}
use Rattle.tx_control.specs.Codes.{fixed_point_divide_code}
use Rattle.tx_serial.specs.Run.{run, more, more_of, after_fate, after_where, after, may_follow, outcome_of}
use Rattle.tx_control.specs.Nesting.{is_constrained}
use Rattle.tx_control.specs.declared.causes.Why.TheVariants.{External, Program, FetchConflict}
use Rattle.tx_control.specs.declared.causes.Why.TheVariants.{StoreConflict, FetchOverflow, StoreOverflow}
use Rattle.tx_control.specs.declared.causes.Why.TheVariants.{Restricted, Filtered, Depth, Starved, Tabort}
use Rattle.tx_serial.specs.Ending.{ending, ending_of, fate_cause, outcome_cause, comes_from_outside}
use Rattle.tx_serial.specs.Ending.{has_operands, is_open, is_cause, fits}
use Rattle.tx_serial.specs.Alike.{Track, track_of, addresses_in, addresses_of, touched_addresses}
use Rattle.tx_serial.specs.Alike.{AgreeAt, AgreeInText, AreAlike}
use Rattle.tx_serial.proofs.Copies.{laid_alike, run_copy, run_prefix}
use Rattle.tx_serial.proofs.FreeCauses.{cause_by_kind}

-- ---- bytes

-- a run with another copy of storage
abbrev with_copy : Storage → Run → Run
with_copy c p = record p { copy = c }

pub equals_itself : (a : ℕ) → nat_eq a a ≡ true
equals_itself a = grind (arith)

pub in_first : (a : ℕ) (xs ys : List ℕ) → list_any (nat_eq a) xs ≡ true → list_any (nat_eq a) (xs ++ ys)
    ≡ true
in_first a xs ys h = list_any-append (nat_eq a) xs ys
    ∙ or_left (list_any (nat_eq a) xs) (list_any (nat_eq a) ys) h

pub in_second : (a : ℕ) (xs ys : List ℕ) → list_any (nat_eq a) ys ≡ true → list_any (nat_eq a) (xs ++ ys)
    ≡ true
in_second a xs ys h = list_any-append (nat_eq a) xs ys
    ∙ or_right (list_any (nat_eq a) xs) (list_any (nat_eq a) ys) h

-- the bytes at a list of addresses
pub seen_alike : (prefix : Option ℕ) (s t : Storage) (xs : List ℕ) → AgreeAt prefix xs s t
    → map (λ a. t (absolute_of prefix a)) xs ≡ map (λ a. s (absolute_of prefix a)) xs
seen_alike prefix s t [] h = refl
seen_alike prefix s t (x ∷ xs) h =
    ap (λ b. b ∷ map (λ a. t (absolute_of prefix a)) xs) (h x (or_left (nat_eq x x) (list_any (nat_eq x)
    xs) (equals_itself x)))
    ∙ ap (λ bs. s (absolute_of prefix x) ∷ bs)
    (seen_alike prefix s t xs (λ a e. h a (or_right (nat_eq a x) (list_any (nat_eq a) xs) e)))

operands_alike : (prefix : Option ℕ) (s t : Storage) (ranges : List Range)
    → AgreeAt prefix (addresses_in ranges) s t
    → operand_bytes prefix t ranges ≡ operand_bytes prefix s ranges
operands_alike prefix s t [] h = refl
operands_alike prefix s t (r ∷ rs) h =
    ap (λ bs. bs ++ operand_bytes prefix t rs)
    (seen_alike prefix s t (from_up r.first r.length) (λ a e. h a (in_first a (from_up r.first r.length)
    (addresses_in rs) e)))
    ∙ ap (λ bs. bytes_seen prefix s r.first r.length ++ bs)
    (operands_alike prefix s t rs (λ a e. h a (in_second a (from_up r.first r.length) (addresses_in rs) e)))

-- ---- the fetch

-- a byte that can be fetched lies in text
pub in_text : (accessible text : List ℕ) (a : ℕ) → byte_unfetched accessible text a ≡ None → lies_in text a ≡ true
in_text accessible text a h =
    by (not (lies_in accessible a)) (lies_in text a) h
  where
    by : (w l : Bool) → where_wrong w addressing (where_wrong (not l) protection None) ≡ None → l ≡ true
    by w true h = refl
    by true false h = grind (arith, h)
    by false false h = grind (arith, h)

some_in_text : (accessible text : List ℕ) (y x : ℕ) (o : Option ℕ) (b : Bool) (rest : List (Option ℕ))
    (others : Bool)
    → byte_unfetched accessible text y ≡ o → nat_eq x y ≡ b → first_some (o ∷ rest) ≡ None
    → (b || others) ≡ true
    → (first_some rest ≡ None → others ≡ true → lies_in text x ≡ true)
    → lies_in text x ≡ true
some_in_text accessible text y x (Some code) b rest others q w h e more = grind (arith, h)
some_in_text accessible text y x None true rest others q w h e more =
    let same : y ≡ x = grind (arith, w) in
    subst (λ z. lies_in text z ≡ true) same (in_text accessible text y q)
some_in_text accessible text y x None false rest others q w h e more = more h e

all_in_text : (accessible text xs : List ℕ) → first_some (map (byte_unfetched accessible text) xs) ≡ None
    → (x : ℕ) → list_any (nat_eq x) xs ≡ true → lies_in text x ≡ true
all_in_text accessible text [] h x e = grind (arith, e)
all_in_text accessible text (y ∷ ys) h x e =
    some_in_text accessible text y x (byte_unfetched accessible text y) (nat_eq x y)
    (map (byte_unfetched accessible text) ys) (list_any (nat_eq x) ys) refl refl h e
    (λ g d. all_in_text accessible text ys g x d)

pub no_wrong : (b : Bool) (code : ℕ) (o : Option ℕ) → where_wrong b code o ≡ None → o ≡ None
no_wrong true code o h = grind (arith, h)
no_wrong false code o h = h

pub fetched_text : (accessible text : List ℕ) (a n : ℕ) → unfetched accessible text a n ≡ None
    → (x : ℕ) → list_any (nat_eq x) (from_up a n) ≡ true → lies_in text x ≡ true
unfolding unfetched
fetched_text accessible text a n h =
    all_in_text accessible text (from_up a n) (no_wrong (nat_eq (a % 2) 1) specification _ h)

-- an instruction has a byte
pub length_some : (x y : Bool) → (m : ℕ) × ((if x then 2 else if y then 4 else 6) ≡ suc m)
length_some true y = (1, refl)
length_some false true = (3, refl)
length_some false false = (5, refl)

-- where the first byte can't be fetched, its value does not matter
blocked_by : (accessible text : List ℕ) (a m code : ℕ) → byte_unfetched accessible text a ≡ Some code
    → unfetched accessible text a (suc m) ≡ where_wrong (nat_eq (a % 2) 1) specification (Some code)
unfolding unfetched
blocked_by accessible text a m code e =
    ap (λ o. where_wrong (nat_eq (a % 2) 1) specification
    (first_some (o ∷ map (byte_unfetched accessible text) (from_up (suc a) m)))) e

pub blocked : (accessible text : List ℕ) (a byte code : ℕ) → byte_unfetched accessible text a ≡ Some code
    → unfetched accessible text a (length_by byte) ≡ where_wrong (nat_eq (a % 2) 1) specification (Some code)
blocked accessible text a byte code e =
    let some = length_some (nat_lt byte 64) (nat_lt byte 192) in
    ap (unfetched accessible text a) some.1 ∙ blocked_by accessible text a some.0 code e

-- ---- the fate

refused_alike : (text : List ℕ) (p : Run) (c : Storage) (b : Bool) (wrong code : ℕ) (i j : Option Instr)
    → fate_by text (with_copy c p) (where_wrong b wrong (Some code)) i
    ≡ fate_by text p (where_wrong b wrong (Some code)) j
refused_alike text p c true wrong code i j = refl
refused_alike text p c false wrong code i j = refl

-- the fate of bytes that read as no instruction, by their number
abbrev unreadable_fate : Run → ℕ → Fate
unreadable_fate p n = fate_after p.nest (Excepts record { code = operation; fetch = false; length = n })

read_alike : (text : List ℕ) (p : Run) (c : Storage) (i : Option Instr) → length_at (with_copy c p)
    ≡ length_at p
    → fate_by text (with_copy c p) None i ≡ fate_by text p None i
read_alike text p c None e = ap (λ n. unreadable_fate p n) e
read_alike text p c (Some i) e = refl

fetched_alike : (text : List ℕ) (p : Run) (c : Storage) (n : ℕ) (u : Option ℕ)
    → unfetched (accessible_pages p.cpu.prefix) (text_pages p.cpu.prefix text) p.cpu.address n ≡ u
    → length_at (with_copy c p) ≡ length_at p
    → AgreeInText p.cpu.prefix text p.copy c
    → fate_by text (with_copy c p) u (reading_of (bytes_seen p.cpu.prefix c p.cpu.address n))
    ≡ fate_by text p u (reading_of (bytes_seen p.cpu.prefix p.copy p.cpu.address n))
fetched_alike text p c n (Some code) h e agree = refl
fetched_alike text p c n None h e agree =
    ap (λ bs. fate_by text (with_copy c p) None (reading_of bs))
    (seen_alike p.cpu.prefix p.copy c (from_up p.cpu.address n)
    (λ x m. agree x (fetched_text (accessible_pages p.cpu.prefix) (text_pages p.cpu.prefix text)
    p.cpu.address n h x m)))
    ∙ read_alike text p c (reading_of (bytes_seen p.cpu.prefix p.copy p.cpu.address n)) e

fate_alike_by : (text : List ℕ) (p : Run) (c : Storage) (o : Option ℕ)
    → byte_unfetched (accessible_pages p.cpu.prefix) (text_pages p.cpu.prefix text) p.cpu.address ≡ o
    → AgreeInText p.cpu.prefix text p.copy c
    → fate text (with_copy c p) ≡ fate text p
unfolding fate
fate_alike_by text p c (Some code) e agree =
    let accessible = accessible_pages p.cpu.prefix in
    let pages = text_pages p.cpu.prefix text in
    let a = p.cpu.address in
    ap (λ u. fate_by text (with_copy c p) u (instruction_at (with_copy c p)))
    (blocked accessible pages a (c (absolute_of p.cpu.prefix a)) code e)
    ∙ refused_alike text p c (nat_eq (a % 2) 1) specification code (instruction_at (with_copy c p))
    (instruction_at p)
    ∙ sym (ap (λ u. fate_by text p u (instruction_at p))
    (blocked accessible pages a (p.copy (absolute_of p.cpu.prefix a)) code e))
fate_alike_by text p c None e agree =
    let accessible = accessible_pages p.cpu.prefix in
    let pages = text_pages p.cpu.prefix text in
    let a = p.cpu.address in
    let same : length_at (with_copy c p) ≡ length_at p = ap length_by (agree a (in_text accessible pages a
    e)) in
    ap (λ n. fate_by text (with_copy c p) (unfetched accessible pages a n) (reading_of (bytes_seen
    p.cpu.prefix c a n))) same
    ∙ fetched_alike text p c (length_at p) (unfetched accessible pages a (length_at p)) refl same agree

pub fate_alike : (text : List ℕ) (p : Run) (c : Storage) → AgreeInText p.cpu.prefix text p.copy c
    → fate text (with_copy c p) ≡ fate text p
fate_alike text p c agree = fate_alike_by text p c (byte_unfetched (accessible_pages p.cpu.prefix)
    (text_pages p.cpu.prefix text) p.cpu.address) refl agree

-- ---- what a run has touched

old_step : (a : ℕ) (steps : List Step) (s : Step) → list_any (nat_eq a) (addresses_of steps) ≡ true
    → list_any (nat_eq a) (addresses_of (steps ++ s ∷ [])) ≡ true
old_step a steps s h =
    subst (λ l. list_any (nat_eq a) l ≡ true) (sym (flat_map-append (λ t. addresses_in t.ranges) steps (s
    ∷ [])))
    (in_first a (addresses_of steps) (addresses_of (s ∷ [])) h)

new_step : (a : ℕ) (steps : List Step) (s : Step) → list_any (nat_eq a) (addresses_in s.ranges) ≡ true
    → list_any (nat_eq a) (addresses_of (steps ++ s ∷ [])) ≡ true
new_step a steps s h =
    subst (λ l. list_any (nat_eq a) l ≡ true) (sym (flat_map-append (λ t. addresses_in t.ranges) steps (s
    ∷ [])))
    (in_second a (addresses_of steps) (addresses_of (s ∷ [])) (in_first a (addresses_in s.ranges) [] h))

-- one instruction more touches no less
abbrev Grows : Run → Run → Type 0
Grows p q = (a : ℕ) → list_any (nat_eq a) (touched_addresses p) ≡ true
    → list_any (nat_eq a) (touched_addresses q) ≡ true

grows_after : (i : Instr) (ranges : List Range) (p : Run) (o : Outcome) → Grows p (after i ranges p o)
grows_after i ranges p (Did c bytes) a h = old_step a p.steps (step_of i ranges p.cpu) h
grows_after i ranges p (outcome.Overflowed c bytes) a h = old_step a p.steps (step_of i ranges p.cpu) h
grows_after i ranges p Divides a h = h
grows_after i ranges p (Aborts code) a h = h

grows_where : (b : Bool) (i : Instr) (ranges : List Range) (p : Run) → Grows p (after_where b i ranges p)
grows_where true i ranges p a h = grows_after i ranges p (outcome_of i ranges p) a h
grows_where false i ranges p a h = h

grows_fate : (o : Fate) (p : Run) → Grows p (after_fate o p)
grows_fate (Goes i ranges) p a h = grows_where (may_follow p.nest i) i ranges p a h
grows_fate (Ends why) p a h = h
grows_fate (Stops x) p a h = h

grows_more : (m : Mark) (text : List ℕ) (p : Run) → Grows p (more_of m text p)
grows_more Open text p a h = grows_fate (fate text p) p a h
grows_more Committed text p a h = h
grows_more Overflowed text p a h = h
grows_more Missing text p a h = h

-- ---- one instruction more

outcome_alike : (i : Instr) (ranges : List Range) (p : Run) (c : Storage)
    → AgreeAt p.cpu.prefix (addresses_in ranges) p.copy c
    → outcome_of i ranges (with_copy c p) ≡ outcome_of i ranges p
outcome_alike i ranges p c agree =
    ap (one i p.cpu (length p.nest)) (operands_alike p.cpu.prefix p.copy c ranges agree)

-- an instruction that ends a run by a cause of its own does so whatever the bytes of its operands are
ends_alike : (i : Instr) (ranges : List Range) (p : Run) (c : Storage) (o other : Outcome) (why : Why)
    → outcome_cause p.nest i o ≡ Some why → outcome_cause p.nest i other ≡ outcome_cause p.nest i o
    → track_of (after i ranges (with_copy c p) other) ≡ track_of (missing p)
ends_alike i ranges p c o (Did d bytes) why is same =
    let none : None ≡ Some why = same ∙ is in absurd (cc)
ends_alike i ranges p c o (outcome.Overflowed d bytes) why is same =
    let none : None ≡ Some why = same ∙ is in absurd (cc)
ends_alike i ranges p c o Divides why is same = refl
ends_alike i ranges p c o (Aborts code) why is same = refl

after_alike : (i : Instr) (ranges : List Range) (p : Run) (c : Storage) (o other : Outcome)
    → (AgreeAt p.cpu.prefix (addresses_in ranges) p.copy c → other ≡ o)
    → outcome_cause p.nest i other ≡ outcome_cause p.nest i o
    → AgreeAt p.cpu.prefix (touched_addresses (after i ranges p o)) p.copy c
    → track_of (after i ranges (with_copy c p) other) ≡ track_of (after i ranges p o)
after_alike i ranges p c (Did d bytes) other same causes agree =
    ap (λ x. track_of (after i ranges (with_copy c p) x))
    (same (λ a e. agree a (new_step a p.steps (step_of i ranges p.cpu) e)))
after_alike i ranges p c (outcome.Overflowed d bytes) other same causes agree =
    ap (λ x. track_of (after i ranges (with_copy c p) x))
    (same (λ a e. agree a (new_step a p.steps (step_of i ranges p.cpu) e)))
after_alike i ranges p c Divides other same causes agree =
    ends_alike i ranges p c Divides other (cause_in p.nest (exception fixed_point_divide_code (length_of i)))
    refl causes
after_alike i ranges p c (Aborts code) other same causes agree =
    ends_alike i ranges p c (Aborts code) other (Tabort code) refl causes

where_alike : (b : Bool) (i : Instr) (ranges : List Range) (p : Run) (c : Storage)
    → AgreeAt p.cpu.prefix (touched_addresses (after_where b i ranges p)) p.copy c
    → track_of (after_where b i ranges (with_copy c p)) ≡ track_of (after_where b i ranges p)
where_alike true i ranges p c agree =
    after_alike i ranges p c (outcome_of i ranges p) (outcome_of i ranges (with_copy c p))
    (outcome_alike i ranges p c)
    (cause_by_kind p.nest i (kind_at i.op.number) (length_of i) i p.cpu (length p.nest)
    (operand_bytes p.cpu.prefix c ranges) (operand_bytes p.cpu.prefix p.copy ranges)) agree
where_alike false i ranges p c agree = refl

after_fate_alike : (o : Fate) (p : Run) (c : Storage)
    → AgreeAt p.cpu.prefix (touched_addresses (after_fate o p)) p.copy c
    → track_of (after_fate o (with_copy c p)) ≡ track_of (after_fate o p)
after_fate_alike (Goes i ranges) p c agree = where_alike (may_follow p.nest i) i ranges p c agree
after_fate_alike (Ends why) p c agree = refl
after_fate_alike (Stops x) p c agree = refl

more_alike : (m : Mark) (text : List ℕ) (p : Run) (c : Storage)
    → AgreeInText p.cpu.prefix text p.copy c
    → AgreeAt p.cpu.prefix (touched_addresses (more_of m text p)) p.copy c
    → track_of (more_of m text (with_copy c p)) ≡ track_of (more_of m text p)
more_alike Open text p c in_text agree =
    ap (λ o. track_of (after_fate o (with_copy c p))) (fate_alike text p c in_text)
    ∙ after_fate_alike (fate text p) p c agree
more_alike Committed text p c in_text agree = refl
more_alike Overflowed text p c in_text agree = refl
more_alike Missing text p c in_text agree = refl

-- ---- runs

-- a run of what it shows, with a copy
abbrev run_of : Track → Storage → Run
run_of t c = record {
  cpu = t.cpu;
  copy = c;
  stores = t.stores;
  lasting = t.lasting;
  nest = t.nest;
  touched = t.touched;
  steps = t.steps;
  mark = t.mark;
}

pub with_its_copy : (p q : Run) → track_of q ≡ track_of p → q ≡ with_copy q.copy p
with_its_copy p q e = ap (λ t. run_of t q.copy) e

-- the copies agree where the states do
copies_alike : (f g : FlatState) (i k : ℕ) → track_of (run g i k) ≡ track_of (run f i k)
    → (a : ℕ) → g.storage a ≡ f.storage a → (run g i k).copy a ≡ (run f i k).copy a
copies_alike f g i k same a e =
    ap (λ s. s a) (run_copy g i k)
    ∙ ap (λ t. laid_over g.storage t.stores a) same
    ∙ laid_alike (run f i k).stores f.storage g.storage a e
    ∙ sym (ap (λ s. s a) (run_copy f i k))

copies_in_text : (f g : FlatState) (i k : ℕ) → track_of (run g i k) ≡ track_of (run f i k)
    → AgreeInText (f.cpus i).prefix f.text f.storage g.storage
    → AgreeInText (run f i k).cpu.prefix f.text (run f i k).copy (run g i k).copy
copies_in_text f g i k same agree =
    subst (λ prefix. AgreeInText prefix f.text (run f i k).copy (run g i k).copy) (sym (run_prefix f i k))
    (λ a h. copies_alike f g i k same (absolute_of (f.cpus i).prefix a) (agree a h))

copies_at : (f g : FlatState) (i k : ℕ) (addresses : List ℕ) → track_of (run g i k) ≡ track_of (run f i k)
    → AgreeAt (f.cpus i).prefix addresses f.storage g.storage
    → AgreeAt (run f i k).cpu.prefix addresses (run f i k).copy (run g i k).copy
copies_at f g i k addresses same agree =
    subst (λ prefix. AgreeAt prefix addresses (run f i k).copy (run g i k).copy) (sym (run_prefix f i k))
    (λ a h. copies_alike f g i k same (absolute_of (f.cpus i).prefix a) (agree a h))

abbrev pub less : {i : ℕ} {xs : List ℕ} {f g : FlatState} (ys : List ℕ)
    → ((a : ℕ) → list_any (nat_eq a) ys ≡ true → list_any (nat_eq a) xs ≡ true)
    → AreAlike i xs f g → AreAlike i ys f g
less ys part alike = record {
  cpu = alike.cpu;
  pages = alike.pages;
  text = alike.text;
  touched = λ a h. alike.touched a (part a h);
}

pub run_alike : (f g : FlatState) (i k : ℕ) → AreAlike i (touched_addresses (run f i k)) f g
    → track_of (run g i k) ≡ track_of (run f i k)
unfolding run more
run_alike f g i zero alike = ap (λ c. track_of (at_rest f.storage c)) alike.cpu
run_alike f g i (suc k) alike =
    let p = run f i k in
    let q = run g i k in
    let same : track_of q ≡ track_of p =
    run_alike f g i k (less (touched_addresses p) (grows_more p.mark f.text p) alike) in
    ap (λ t. track_of (more_of q.mark t q)) alike.pages
    ∙ ap (λ z. track_of (more_of z.mark f.text z)) (with_its_copy p q same)
    ∙ more_alike p.mark f.text p q.copy (copies_in_text f g i k same alike.text)
    (copies_at f g i k (touched_addresses (more_of p.mark f.text p)) same alike.touched)

-- ---- endings

cause_alike : (o : Fate) (p : Run) (c : Storage) → fate_cause (with_copy c p) o ≡ fate_cause p o
cause_alike (Goes i ranges) p c =
    cause_by_kind p.nest i (kind_at i.op.number) (length_of i) i p.cpu (length p.nest)
    (operand_bytes p.cpu.prefix c ranges) (operand_bytes p.cpu.prefix p.copy ranges)
cause_alike (Ends why) p c = refl
cause_alike (Stops x) p c = refl

ending_by : (m : Mark) (text : List ℕ) (p : Run) (c : Storage)
    → AgreeInText p.cpu.prefix text p.copy c
    → ending_of m text (with_copy c p) ≡ ending_of m text p
ending_by Open text p c in_text =
    ap (fate_cause (with_copy c p)) (fate_alike text p c in_text) ∙ cause_alike (fate text p) p c
ending_by Committed text p c in_text = refl
ending_by Overflowed text p c in_text = refl
ending_by Missing text p c in_text = refl

outside_alike : (why : Why) (text : List ℕ) (p : Run) (c : Storage)
    → AgreeInText p.cpu.prefix text p.copy c
    → comes_from_outside text (with_copy c p) why ≡ comes_from_outside text p why
outside_alike External text p c in_text = refl
outside_alike (Program e) text p c in_text = refl
outside_alike (FetchConflict line) text p c in_text = refl
outside_alike (StoreConflict line) text p c in_text = refl
outside_alike FetchOverflow text p c in_text = refl
outside_alike StoreOverflow text p c in_text = refl
outside_alike Restricted text p c in_text = refl
outside_alike (Filtered e) text p c in_text = refl
outside_alike Depth text p c in_text = refl
outside_alike Starved text p c in_text = ap (λ o. is_constrained p.nest && has_operands o) (fate_alike text
    p c in_text)
outside_alike (Tabort code) text p c in_text = refl

-- the endings of two runs that show the same
pub ending_alike : (f g : FlatState) (i k : ℕ) → track_of (run g i k) ≡ track_of (run f i k)
    → AreAlike i (touched_addresses (run f i k)) f g
    → ending g.text (run g i k) ≡ ending f.text (run f i k)
unfolding ending
ending_alike f g i k same alike =
    let p = run f i k in
    let q = run g i k in
    ap (λ t. ending_of q.mark t q) alike.pages
    ∙ ap (λ z. ending_of z.mark f.text z) (with_its_copy p q same)
    ∙ ending_by p.mark f.text p q.copy (copies_in_text f g i k same alike.text)

outside_both : (f g : FlatState) (i k : ℕ) (why : Why) → track_of (run g i k) ≡ track_of (run f i k)
    → AreAlike i (touched_addresses (run f i k)) f g
    → comes_from_outside g.text (run g i k) why ≡ comes_from_outside f.text (run f i k) why
outside_both f g i k why same alike =
    let p = run f i k in
    let q = run g i k in
    ap (λ t. comes_from_outside t q why) alike.pages
    ∙ ap (λ z. comes_from_outside f.text z why) (with_its_copy p q same)
    ∙ outside_alike why f.text p q.copy (copies_in_text f g i k same alike.text)

pub fits_alike : (f g : FlatState) (i k : ℕ) (why : Why) → track_of (run g i k) ≡ track_of (run f i k)
    → AreAlike i (touched_addresses (run f i k)) f g
    → fits g.text (run g i k) why ≡ fits f.text (run f i k) why
unfolding fits
fits_alike f g i k why same alike =
    let p = run f i k in
    let q = run g i k in
    ap (λ e. is_cause e why || (is_open q.mark && comes_from_outside g.text q why)) (ending_alike f g i k
    same alike)
    ∙ ap (λ b. is_cause (ending f.text p) why || (is_open q.mark && b)) (outside_both f g i k why same alike)
    ∙ ap (λ t. is_cause (ending f.text p) why || (is_open t.mark && comes_from_outside f.text p why)) same
