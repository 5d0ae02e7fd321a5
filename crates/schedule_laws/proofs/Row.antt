-- What the assembler's readings make of a line of printed events.
use Rattle.std.proofs.Common.{◌≡◌, ℕ, zero, suc, ◌+◌, ◌-◌, ◌*◌, ◌<◌, ◌≤◌, Bool, true, false, not, List, [], ◌∷◌, ◌++◌}
use Rattle.std.proofs.Common.{length, map, take, drop, Option, Some, None, refl, sym, ap, ◌∙◌, arith, subst, cond}
use Rattle.std.proofs.Common.{lt-ltb, le-ltb}
use Rattle.std.specs.Prelude.{Result, Ok, Err, if◌then◌else◌, nat_lt, ◌==◌}
use Rattle.std.specs.List.{list_all, prefix_len}
use Rattle.std.specs.Int.{IsInRange}
use Rattle.std.proofs.lemmas.Bool.{and_parts, and_from, ne_eqb, not-true}
use Rattle.std.proofs.lemmas.Bool.Decides.{nat_tests}
use Rattle.std.proofs.lemmas.Fmt.{decimal_nonempty}
use Rattle.std.proofs.lemmas.List.{take_all}
use Rattle.z_text.specs.Line.{past, is_blank, is_inked, is_printed, as_read, fields_of}
use Rattle.z_text.specs.Tokens.{tokens_of, split_of, has_bad_head, head_of, behind, operands_of, with_numbers}
use Rattle.z_text.specs.Tokens.{is_good_number}
use Rattle.z_text.specs.declared.fields.Fields.{Fields}
use Rattle.z_text.specs.declared.token.TextFault.{TextFault}
use Rattle.z_text.specs.declared.token.TextFault.TheVariants.{LineTooLong}
use Rattle.z_text.specs.declared.token.Token.{Token}
use Rattle.z_text.specs.declared.token.TokenKind.TheVariants.{Name}
use Rattle.tx_journal.specs.Schedule.{events_text}
use Rattle.tx_journal.specs.declared.events.Event.{Event}
use Rattle.z_fields.specs.Chain.{◌>>=◌}
use Rattle.z_operands.specs.Operations.{operation_named, directive_named, row_named}
use Rattle.z_fields.specs.Schedule.{scheduled}
use Rattle.z_fields.specs.declared.fault.Kind.{Kind}
use Rattle.z_fields.specs.declared.fault.Kind.TheVariants.{BadDirective}
use Rattle.z_operands.specs.declared.operation.Operation.{Operation}
use Rattle.z_operands.specs.declared.operation.Operation.TheVariants.{Sched}
use Rattle.z_reading.specs.Listing.{Plan, Task, line_gives, by_kind, said_line, operation_in, operation_line}
use Rattle.z_reading.specs.Listing.{field_behind, tasked, named_line}
use Rattle.z_setup.specs.Machine.{Machine, Known, task_gives, read_again, schedule_line, tokens_in, tokens_or}
use Rattle.z_setup.specs.Machine.{end_of}
use Rattle.deck_laws.proofs.Rows.{Row}
use Rattle.deck_laws.proofs.Data.{all_take, prefix_all}
use Rattle.schedule_laws.proofs.Marks.{AreBelow, events_pass, events_capital, events_short}
use Rattle.schedule_laws.proofs.Back.{field_taken}

-- a blank, SCHED, a blank and the events
abbrev pub line_of : List Event → List ℕ
line_of es = 32 ∷ 83 ∷ 67 ∷ 72 ∷ 69 ∷ 68 ∷ 32 ∷ events_text es

abbrev token : Token
token = record { first = 1; end = 6; kind = Name }

inked_digit : (b : ℕ) → IsInRange 48 57 b → is_inked b ≡ true
inked_digit b h = ap not (ne_eqb b 32 (λ e. omega (arith, h.0, e)))

printed_digit : (b : ℕ) → IsInRange 48 57 b → is_printed b ≡ true
printed_digit b (low, high) = grind (arith, nat_tests)

visible_digit : (b : ℕ) → IsInRange 48 57 b → nat_lt 31 b ≡ true
visible_digit b h = lt-ltb 31 b (omega (arith, h.0))

-- where inked bytes begin there is no blank
no_blank : (xs : List ℕ) → list_all is_inked xs ≡ true → prefix_len is_blank xs ≡ 0
no_blank [] h = refl
no_blank (x ∷ xs) h =
    let parts = and_parts (is_inked x) (list_all is_inked xs) h in
    ap (λ b. cond b (1 + prefix_len is_blank xs) 0) (not-true (x == 32) parts.0)

module _ (es : List Event) (low : AreBelow 16 es) (some : 0 < length es) (few : length es ≤ 16) where
  abbrev line : List ℕ
  line = line_of es

  abbrev field : List ℕ
  field = events_text es

  printed : list_all is_printed field ≡ true
  printed = events_pass is_printed printed_digit refl refl es low

  inked : list_all is_inked field ≡ true
  inked = events_pass is_inked inked_digit refl refl es low

  visible_field : list_all (λ b. nat_lt 31 b) field ≡ true
  visible_field = events_pass (λ b. nat_lt 31 b) visible_digit refl refl es low

  pub visible : list_all (λ b. nat_lt 31 b) (line_of es) ≡ true
  visible = visible_field

  pub capital : as_read (line_of es) ≡ line_of es
  capital = ap (λ (t : List ℕ). 32 ∷ 83 ∷ 67 ∷ 72 ∷ 69 ∷ 68 ∷ 32 ∷ t) (events_capital es low)

  pub short : length (line_of es) ≤ 120
  short = omega (arith, events_short es low)

  unfoldable pub row : Row
  row = record { text = line_of es; visible = visible; short = short }

  pub row_text : row.text ≡ line_of es
  unfolding row
  row_text = refl

  -- ---- tokens

  abbrev blank : ℕ
  blank = prefix_len is_blank field

  blank_is : blank ≡ 0
  blank_is = no_blank field inked

  abbrev found : Fields
  found = record {
    label_end = 0;
    operation = 1;
    operation_end = 6;
    operands = 7;
    operands_end = past is_inked 7 line;
  }

  fields_are : fields_of line ≡ found
  unfolding fields_of
  fields_are = ap (λ (n : ℕ). record {
    label_end = 0;
    operation = 1;
    operation_end = 6;
    operands = 6 + (1 + n);
    operands_end = past is_inked (6 + (1 + n)) line;
  }) blank_is

  operands_are : operands_of line found ≡ Some []
  unfolding operands_of
  operands_are = ap (λ b. if b then Some [] else None)
      (all_take is_printed (past is_inked 7 line - 7) field printed)

  split_is : split_of line ≡ Some (token ∷ [])
  unfolding split_of has_bad_head
  split_is =
      ap (λ (f : Fields). if has_bad_head line f then None else behind (head_of f) (operands_of line f)) fields_are
      ∙ ap (behind (token ∷ [])) operands_are

  tokens_are : tokens_of line ≡ Ok (token ∷ [])
  unfolding tokens_of is_good_number
  tokens_are =
      ap (λ b. if b then Err LineTooLong else with_numbers line (split_of (as_read line))) (le-ltb 120
      (length line) short)
      ∙ ap (λ (l : List ℕ). with_numbers line (split_of l)) capital
      ∙ ap (with_numbers line) split_is

  -- ---- the first reading

  sched_is : operation_named (83 ∷ 67 ∷ 72 ∷ 69 ∷ 68 ∷ []) ≡ Some Sched
  unfolding operation_named directive_named row_named
  sched_is = refl

  -- the line is kept for the second reading
  pub line_kept : (n : ℕ) (p : Plan) → p.ended ≡ false → line_gives n (line_of es) p
      ≡ Ok (tasked n p.here (line_of es) Sched p)
  unfolding line_gives operation_line
  line_kept n p open_yet =
      ap (λ (r : Result (List Token) TextFault). by_kind r >>= λ us. said_line n line us (operation_in us) p)
      tokens_are
      ∙ ap (λ b. if b then Err BadDirective
      else named_line (operation_named (83 ∷ 67 ∷ 72 ∷ 69 ∷ 68 ∷ [])) n [] line 6 [] p) open_yet
      ∙ ap (λ (o : Option Operation). named_line o n [] line 6 [] p) sched_is

  -- ---- the second reading

  field_is : field_behind 6 line ≡ field
  field_is =
      ap (λ (n : ℕ). take (past is_inked (6 + (1 + n)) line - (6 + (1 + n))) (drop (6 + (1 + n)) line)) blank_is
      ∙ ap (λ (n : ℕ). take n field) size
      ∙ take_all (length field) field (omega arith)
    where
      size : past is_inked 7 line - 7 ≡ length field
      size = omega (arith, prefix_all is_inked field inked)

  -- the events come behind those that there are
  pub events_taken : (k : Known) (t : Task) (m : Machine) → t.text ≡ line_of es → t.operation ≡ Sched
      → AreBelow (length m.cpus) es → length m.schedule + length es ≤ 4194304
      → task_gives k t m ≡ Ok (record m { schedule = m.schedule ++ es; scheduled = true })
  unfolding task_gives read_again tokens_in schedule_line
  events_taken k t m text_is op_is known room =
      ap (λ (o : Operation). read_again o k t (tokens_in t.text) m) op_is
      ∙ ap (λ (l : List ℕ). schedule_line (field_behind (end_of (operation_in (tokens_in l))) l) m) text_is
      ∙ ap (λ (r : Result (List Token) TextFault). schedule_line (field_behind (end_of (operation_in (tokens_or r)))
      line) m) tokens_are
      ∙ ap (λ (f : List ℕ). scheduled (length m.cpus) f m.schedule >>= λ new. Ok
      (record m { schedule = new; scheduled = true })) field_is
      ∙ ap (λ (r : Result (List Event) Kind). r >>= λ new. Ok (record m { schedule = new; scheduled = true }))
      (field_taken (length m.cpus) es m.schedule some known low room)
