-- The events of a field are read back.
use Rattle.std.proofs.Common.{◌≡◌, ℕ, zero, suc, ◌+◌, ◌<◌, ◌≤◌, ◌^◌, Bool, true, false, not, ◌&&◌, List, [], ◌∷◌}
use Rattle.std.proofs.Common.{◌++◌, length, map, take, drop, get_or, Option, Some, None, refl, sym, ap, ap₂, ◌∙◌, arith}
use Rattle.std.proofs.Common.{lt-ltb, le-ltb, le-leb, cond, append_assoc, length-append, subst}
use Rattle.std.specs.Prelude.{Result, Ok, Err, if◌then◌else◌, nat_lt, ◌==◌}
use Rattle.std.specs.List.{list_all, prefix_len}
use Rattle.std.specs.Fmt.{decimal}
use Rattle.std.specs.Int.{IsInRange}
use Rattle.std.proofs.lemmas.Bool.{and_parts, ne_eqb, not-true}
use Rattle.std.proofs.lemmas.Fmt.{decimal_nonempty}
use Rattle.std.proofs.lemmas.List.{append-nil}
use Rattle.z_text.specs.Numbers.{number_of, number_in}
use Rattle.tx_journal.specs.Image.{cpu_of_event}
use Rattle.tx_journal.specs.Schedule.{event_text, further_text, events_text}
use Rattle.tx_journal.specs.declared.events.Event.{Event}
use Rattle.tx_journal.specs.declared.events.Event.TheVariants.{Turn, External}
use Rattle.z_fields.specs.Chain.{◌>>=◌}
use Rattle.z_fields.specs.Pieces.{pieces_by, onto, is_before}
use Rattle.z_fields.specs.Schedule.{scheduled, with_items, with_item, with_run, run_of, turns_in, make_run}
use Rattle.z_fields.specs.Schedule.{is_before_star}
use Rattle.z_fields.specs.Schedule as read
use Rattle.z_fields.specs.declared.fault.Kind.{Kind}
use Rattle.z_fields.specs.declared.fault.Kind.TheVariants.{BadSchedule}
use Rattle.z_fields.specs.declared.schedule.Run.{Run}
use Rattle.listing_laws.proofs.Numbers.{AreDigits, digits_are, all_by, number_is}
use Rattle.deck_laws.proofs.Data.{prefix_all}
use Rattle.schedule_laws.proofs.Marks.{AreBelow, small, event_passes}
use Rattle.listing_laws.proofs.Texts.{shortened_so}

-- ---- items

-- an event, with the comma behind it
abbrev pub item_text : Event → List ℕ
item_text e = event_text e ++ 44 ∷ []

abbrev joined : List Event → List ℕ
joined [] = []
joined (e ∷ es) = event_text e ++ 44 ∷ joined es

further_joined : (es : List Event) → further_text es ++ 44 ∷ [] ≡ 44 ∷ joined es
further_joined [] = refl
further_joined (e ∷ es) =
    append_assoc (44 ∷ event_text e) (further_text es) (44 ∷ [])
    ∙ ap (λ (t : List ℕ). 44 ∷ (event_text e ++ t)) (further_joined es)

field_joined : (e : Event) (es : List Event) → events_text (e ∷ es) ++ 44 ∷ [] ≡ joined (e ∷ es)
field_joined e es =
    append_assoc (event_text e) (further_text es) (44 ∷ [])
    ∙ ap (λ (t : List ℕ). event_text e ++ t) (further_joined es)

one_piece : (l rest : List ℕ) → list_all (is_before 44) l ≡ true
    → pieces_by 44 (l ++ 44 ∷ rest) ≡ (l ++ 44 ∷ []) ∷ pieces_by 44 rest
unfolding pieces_by
one_piece [] rest h = refl
one_piece (b ∷ bs) rest h =
    let parts = and_parts (is_before 44 b) (list_all (is_before 44) bs) h in
    ap (λ c. if c then (b ∷ []) ∷ pieces_by 44 (bs ++ 44 ∷ rest) else onto b (pieces_by 44 (bs ++ 44 ∷ rest)))
    (not-true (b == 44) parts.0)
    ∙ ap (onto b) (one_piece bs rest parts.1)

other_than_comma : (b : ℕ) → IsInRange 48 57 b → is_before 44 b ≡ true
other_than_comma b h = ap not (ne_eqb b 44 (λ e. omega (arith, h.0, e)))

pieces_are : (es : List Event) → AreBelow 16 es → pieces_by 44 (joined es) ≡ map item_text es
unfolding pieces_by
pieces_are [] low = refl
pieces_are (e ∷ es) low =
    one_piece (event_text e) (joined es) (event_passes (is_before 44) other_than_comma refl e low.0)
    ∙ ap (λ (ps : List (List ℕ)). item_text e ∷ ps) (pieces_are es low.1)

-- ---- one item

abbrev run_for : Event → Run
run_for (Turn cpu) = record { external = false; cpu = cpu; count = 1 }
run_for (External cpu) = record { external = true; cpu = cpu; count = 1 }

number_read : (n : ℕ) → n < 16 → read.decimal (decimal n) ≡ Some n
unfolding number_of
number_read n low = by (decimal n) (decimal_nonempty n (small n low)) (number_is n (small n low))
  where
    by : (ds : List ℕ) → 0 < length ds → number_in 10 ds ≡ Some n → read.decimal ds ≡ Some n
    by [] some is = absurd (omega arith)
    by (d ∷ ds) some is = is

before_star : (b : ℕ) → IsInRange 48 57 b → is_before_star b ≡ true
before_star b h = ap not (ne_eqb b 42 (λ e. omega (arith, h.0, e)))

-- digits alone are one turn
digits_read : (n : ℕ) (ds : List ℕ) → 0 < length ds → AreDigits ds → read.decimal ds ≡ Some n
    → run_of ds ≡ Some (run_for (Turn n))
unfolding run_of
digits_read n [] some are is = absurd (omega arith)
digits_read n (d ∷ ds) some are is =
    let here = are 0 (omega arith) in
    let whole = d ∷ ds in
    ap (λ c. if c then make_run true (read.decimal ds) (Some 1) else turns_in (prefix_len is_before_star whole) whole)
    (ne_eqb d 88 (λ e. omega (arith, here.1, e)))
    ∙ ap (λ k. turns_in k whole) (prefix_all is_before_star whole (all_by is_before_star before_star whole are))
    ∙ ap (λ c. if c then make_run false (read.decimal (take (length whole) whole))
    (read.decimal (drop (length whole + 1) whole)) else make_run false (read.decimal whole) (Some 1))
    (le-ltb (length whole) (length whole) (omega arith))
    ∙ ap (λ o. make_run false o (Some 1)) is

event_read : (e : Event) → cpu_of_event e < 16 → run_of (event_text e) ≡ Some (run_for e)
unfolding run_of
event_read (Turn n) low =
    digits_read n (decimal n) (decimal_nonempty n (small n low)) (digits_are n (small n low)) (number_read n low)
event_read (External n) low = ap (λ o. make_run true o (Some 1)) (number_read n low)

run_taken : (cpus : ℕ) (e : Event) (old : List Event) → cpu_of_event e < cpus → length old + 1 ≤ 4194304
    → with_run cpus (Some (run_for e)) old ≡ Ok (old ++ e ∷ [])
run_taken cpus (Turn n) old known few =
    ap₂ (λ (b c : Bool). if b && (true && c) then Ok (old ++ Turn n ∷ []) else Err BadSchedule)
    (lt-ltb n cpus known) (le-leb (length old + 1) 4194304 few)
run_taken cpus (External n) old known few =
    ap₂ (λ (b c : Bool). if b && (true && c) then Ok (old ++ External n ∷ []) else Err BadSchedule)
    (lt-ltb n cpus known) (le-leb (length old + 1) 4194304 few)

item_taken : (cpus : ℕ) (e : Event) (old : List Event) → cpu_of_event e < cpus → cpu_of_event e < 16
    → length old + 1 ≤ 4194304 → with_item cpus (item_text e) old ≡ Ok (old ++ e ∷ [])
item_taken cpus e old known low few =
    ap (λ (t : List ℕ). with_run cpus (run_of t) old) (shortened_so (event_text e) 44)
    ∙ ap (λ (r : Option Run). with_run cpus r old) (event_read e low)
    ∙ run_taken cpus e old known few

items_taken : (cpus : ℕ) (es old : List Event) → AreBelow cpus es → AreBelow 16 es
    → length old + length es ≤ 4194304 → with_items cpus (map item_text es) old ≡ Ok (old ++ es)
unfolding with_items
items_taken cpus [] old known low few = ap Ok (sym (append-nil old))
items_taken cpus (e ∷ es) old known low few =
    ap (λ (r : Result (List Event) Kind). r >>= with_items cpus (map item_text es))
    (item_taken cpus e old known.0 low.0 (omega arith))
    ∙ items_taken cpus es (old ++ e ∷ []) known.1 low.1 (omega (arith, length-append old (e ∷ [])))
    ∙ ap Ok (append_assoc old (e ∷ []) es)

-- ---- a field

-- the events behind those of earlier lines
pub field_taken : (cpus : ℕ) (es old : List Event) → 0 < length es → AreBelow cpus es → AreBelow 16 es
    → length old + length es ≤ 4194304 → scheduled cpus (events_text es) old ≡ Ok (old ++ es)
unfolding scheduled
field_taken cpus [] old some known low few = absurd (omega arith)
field_taken cpus (e ∷ es) old some known low few =
    ap (λ (t : List ℕ). with_items cpus (pieces_by 44 t) old) (field_joined e es)
    ∙ ap (λ (ps : List (List ℕ)). with_items cpus ps old) (pieces_are (e ∷ es) low)
    ∙ items_taken cpus (e ∷ es) old known low few
