-- The first reading of lines that stand further down, behind lines that were kept for the second reading.
use Rattle.std.proofs.Common.{◌≡◌, ℕ, ◌+◌, ◌%◌, Bool, true, false, not, List, [], ◌∷◌, ◌++◌, length, map}
use Rattle.std.proofs.Common.{Option, Some, None, refl, sym, ap, ap₂, ◌∙◌, arith, subst, append_assoc}
use Rattle.std.specs.Prelude.{ℤ, pos, Result, Ok, Err, if◌then◌else◌, ◌==◌, nat_lt, slice_set}
use Rattle.std.proofs.lemmas.List.{map-append}
use Rattle.z_text.specs.Line.{span}
use Rattle.z_text.specs.Tokens.{tokens_of}
use Rattle.z_text.specs.declared.token.Token.{Token}
use Rattle.z_fields.specs.Chain.{◌>>=◌}
use Rattle.z_fields.specs.Data.{data_of}
use Rattle.z_operands.specs.Operations.{operation_named, size_of_row}
use Rattle.z_fields.specs.Pieces.{without_end}
use Rattle.z_fields.specs.declared.fault.Kind.{Kind}
use Rattle.z_fields.specs.declared.fault.Kind.TheVariants.{OutOfRange, BadDirective, DoubleLabel, Overlap}
use Rattle.z_operands.specs.declared.operation.Operation.{Operation}
use Rattle.z_operands.specs.declared.operation.Operation.TheVariants as operations
use Rattle.z_reading.specs.Listing.{Plan, Task, line_gives, by_kind, said_line, operation_in, operands_in, label_in}
use Rattle.z_reading.specs.Listing.{named_line, known_line, operation_line, tasked, placed, written, started}
use Rattle.z_reading.specs.Listing.{instruction_line, org_line, equ_line, ds_line, dc_line, cpu_line, end_line}
use Rattle.z_reading.specs.Listing.{value_on, is_below, is_doubleword, to_nat, labelled, has_room, is_taken}
use Rattle.z_reading.specs.Listing.{is_bad_label, is_defined, field_behind, is_nil}
use Rattle.z_assemble.specs.Whole.{First}

module _ (k : ℕ) (front : List Task) where
  -- so many lines further down
  abbrev pub later : Task → Task
  later t = record t { line = t.line + k }

  abbrev pub moved : Plan → Plan
  moved p = record p { tasks = front ++ map later p.tasks }

  abbrev over : Result Plan Kind → Result Plan Kind
  over (Ok p) = Ok (moved p)
  over (Err e) = Err e

  -- the answers on the moved plan are the moved answers
  abbrev Moves : (Plan → Result Plan Kind) → (Plan → Result Plan Kind) → Type 0
  Moves f g = (p : Plan) → g (moved p) ≡ over (f p)

  if_moves : (b : Bool) (x y u v : Result Plan Kind) → u ≡ over x → v ≡ over y
      → (if b then u else v) ≡ over (if b then x else y)
  if_moves true x y u v h i = h
  if_moves false x y u v h i = i

  then_moves : {X : Type 0} (r : Result X Kind) (f g : X → Result Plan Kind) → ((x : X) → g x ≡ over (f x))
      → (r >>= g) ≡ over (r >>= f)
  then_moves (Ok x) f g h = h x
  then_moves (Err e) f g h = refl

  plan_then_moves : (r s : Result Plan Kind) (f g : Plan → Result Plan Kind) → s ≡ over r → Moves f g
      → (s >>= g) ≡ over (r >>= f)
  plan_then_moves (Ok p) s f g is h = ap (λ (t : Result Plan Kind). t >>= g) is ∙ h p
  plan_then_moves (Err e) s f g is h = ap (λ (t : Result Plan Kind). t >>= g) is

  tasked_moves : (n here : ℕ) (line : List ℕ) (op : Operation) (p : Plan)
      → tasked (n + k) here line op (moved p) ≡ moved (tasked n here line op p)
  tasked_moves n here line op p =
      let t : Task = record { line = n; here = here; text = line; operation = op } in
      ap (λ (ts : List Task). record p { tasks = ts })
      (append_assoc front (map later p.tasks) (later t ∷ [])
      ∙ ap (λ (ts : List Task). front ++ ts) (sym (map-append later p.tasks (t ∷ []))))

  placed_moves : (n : ℕ) → Moves (placed n) (placed n)
  unfolding placed
  placed_moves n p =
      if_moves (not (has_room n p.here)) _ _ _ _ refl
      (if_moves (is_taken p.here (p.here + n) p.taken) _ _ _ _ refl refl)

  written_moves : (bytes : List ℕ) → Moves (written bytes) (written bytes)
  unfolding written
  written_moves bytes p =
      plan_then_moves (placed (length bytes) p) (placed (length bytes) (moved p)) _ _
      (placed_moves (length bytes) p) (λ q. refl)

  started_moves : (n : ℕ) → Moves (started n) (started n)
  unfolding started
  started_moves n p =
      if_moves (p.here % 2 == 1) _ _ _ _ refl
      (plan_then_moves (placed n p) (placed n (moved p)) _ _ (placed_moves n p) (λ q. refl))

  module _ (n : ℕ) (label line : List ℕ) (end : ℕ) (ts : List Token) where
    operation_moves : (op : Operation)
        → Moves (operation_line op n label line end ts) (operation_line op (n + k) label line end ts)
    unfolding operation_line instruction_line org_line equ_line ds_line dc_line cpu_line end_line
    operation_moves (operations.Instruction row mask) p =
        plan_then_moves (started (size_of_row row) (labelled label (pos p.here) p)) _ _ _
        (started_moves (size_of_row row) (labelled label (pos p.here) p))
        (λ q. ap Ok (tasked_moves n p.here line (operations.Instruction row mask) q))
    operation_moves operations.Org p =
        then_moves (value_on line ts p) _ _ (λ v. if_moves (is_below 1048577 v) _ _ _ _ refl refl)
    operation_moves operations.Equ p =
        then_moves (value_on line ts p) _ _ (λ v. if_moves (is_doubleword v) _ _ _ _ refl refl)
    operation_moves operations.Ds p =
        then_moves (value_on line ts p) _ _ (λ v. if_moves (is_below 1048577 v) _ _ _ _
        (placed_moves (to_nat v) (labelled label (pos p.here) p)) refl)
    operation_moves operations.Dc p =
        then_moves (data_of (field_behind end line)) _ _
        (λ bytes. written_moves bytes (labelled label (pos p.here) p))
    operation_moves operations.Cpu p =
        if_moves (nat_lt p.cpus 16) _ _ _ _
        (ap Ok (tasked_moves n p.here line operations.Cpu (record p { cpus = p.cpus + 1 }))) refl
    operation_moves operations.Reg p = ap Ok (tasked_moves n p.here line operations.Reg p)
    operation_moves operations.Show p = ap Ok (tasked_moves n p.here line operations.Show p)
    operation_moves operations.Tdb p = ap Ok (tasked_moves n p.here line operations.Tdb p)
    operation_moves operations.Sched p = ap Ok (tasked_moves n p.here line operations.Sched p)
    operation_moves operations.Parm p = ap Ok (tasked_moves n p.here line operations.Parm p)
    operation_moves operations.Prefix p = ap Ok (tasked_moves n p.here line operations.Prefix p)
    operation_moves operations.End p = if_moves (is_nil ts) _ _ _ _ refl refl

    named_moves : (o : Option Operation)
        → Moves (named_line o n label line end ts) (named_line o (n + k) label line end ts)
    named_moves None p = refl
    named_moves (Some op) p =
        if_moves (is_bad_label op label) _ _ _ _ refl
        (if_moves (is_defined label p.labels) _ _ _ _ refl (operation_moves op p))

  said_moves : (n : ℕ) (line : List ℕ) (ts : List Token) (o : Option Token)
      → Moves (said_line n line ts o) (said_line (n + k) line ts o)
  said_moves n line ts None p = refl
  said_moves n line ts (Some o) p =
      if_moves p.ended _ _ _ _ refl
      (named_moves n (label_in line ts) line o.end (operands_in ts) (operation_named (span o.first o.end line)) p)

  line_moves : (n : ℕ) (line : List ℕ) → Moves (line_gives n line) (line_gives (n + k) line)
  unfolding line_gives
  line_moves n line p =
      then_moves (by_kind (tokens_of line)) _ _ (λ ts. said_moves n line ts (operation_in ts) p)

  -- the lines go over the moved plan as they went over the plan
  pub first_moves : (n : ℕ) (ls : List (List ℕ)) (p q : Plan) → First n ls p q
      → First (n + k) ls (moved p) (moved q)
  first_moves n [] p q is = ap moved is
  first_moves n (l ∷ ls) p q h =
      let same : n + 1 + k ≡ n + k + 1 = omega arith in (
        moved h.0,
        line_moves n (without_end l) p ∙ ap over h.1,
        subst (λ (i : ℕ). First i ls (moved h.0) (moved q)) same (first_moves (n + 1) ls h.0 q h.2),
      )
