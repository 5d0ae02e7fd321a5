-- What the assembler's first reading makes of a line of words.
use Rattle.std.proofs.Common.{◌≡◌, ℕ, zero, suc, ◌+◌, ◌-◌, ◌%◌, ◌<◌, ◌≤◌, Bool, true, false, not, ◌&&◌, ◌||◌}
use Rattle.std.proofs.Common.{List, [], ◌∷◌, ◌++◌}
use Rattle.std.proofs.Common.{length, take, drop, Option, Some, None, refl, sym, ap, ap₂, ◌∙◌}
use Rattle.std.proofs.Common.{arith, lt-ltb, le-leb}
use Rattle.std.proofs.Common.{length-append, length-drop, append_assoc}
use Rattle.std.proofs.lemmas.List.{length-take}
use Rattle.std.specs.Prelude.{pos, Result, Ok, Err, if◌then◌else◌, ◌==◌, nat_le, slice_set}
use Rattle.std.specs.List.{list_any}
use Rattle.std.proofs.lemmas.List.{drop_at, drop-drop}
use Rattle.z_text.specs.Line.{span}
use Rattle.z_text.specs.Tokens.{tokens_of}
use Rattle.z_text.specs.declared.token.Token.{Token}
use Rattle.z_text.specs.declared.token.TextFault.{TextFault}
use Rattle.z_fields.specs.Chain.{◌>>=◌}
use Rattle.z_operands.specs.Operations.{operation_named, size_of_row}
use Rattle.z_fields.specs.declared.fault.Kind.{Kind}
use Rattle.z_fields.specs.declared.fault.Kind.TheVariants.{OutOfRange, Overlap, BadDirective, DoubleLabel}
use Rattle.z_operands.specs.declared.operation.Operation.{Operation}
use Rattle.z_operands.specs.declared.operation.Operation.TheVariants.{Instruction}
use Rattle.z_reading.specs.Listing.{Plan, Task, line_gives, instruction_line, operation_line}
use Rattle.z_reading.specs.Listing.{by_kind, said_line, operation_in, named_line, operands_in}
use Rattle.z_reading.specs.Listing.{label_in, placed, started, labelled, table_with, tasked}
use Rattle.z_reading.specs.Listing.{has_room, is_taken, is_bad_label, is_defined}
use Rattle.z_reading.specs.Text.{write_at, copies}
use Rattle.listing_laws.proofs.Words.{Word, tokens_for}
use Rattle.listing_laws.proofs.Lines.{line_with, IsSaid, heads, words_at, op_at, op_end, tokens_of_line}
use Rattle.listing_laws.proofs.Lines.{op_there, label_there, token_at, named_heads}
use Rattle.z_assemble.proofs.Over.{copies_size}

-- ---- the parts of the tokens

behind_heads : (label op : List ℕ) (ts : List Token) → operands_in (heads label op ++ ts) ≡ ts
behind_heads [] op ts = refl
behind_heads (b ∷ bs) op ts = ap operands_in (named_heads b bs op ts)

op_in_heads : (label op : List ℕ) (ts : List Token)
    → operation_in (heads label op ++ ts) ≡ Some (token_at (op_at label) (op_end label op))
op_in_heads [] op ts = refl
op_in_heads (b ∷ bs) op ts = ap operation_in (named_heads b bs op ts)

label_in_heads : (line label op : List ℕ) (ts : List Token) → span 0 (length label) line ≡ label
    → label_in line (heads label op ++ ts) ≡ label
label_in_heads line [] op ts there = refl
label_in_heads line (b ∷ bs) op ts there = ap (label_in line) (named_heads b bs op ts) ∙ there

module _ (label op : List ℕ) (ws : List Word) (said : IsSaid label op ws) where
  abbrev pub text : List ℕ
  text = line_with label op ws

  abbrev pub operands : List Token
  operands = tokens_for (words_at label op ws) ws

  pub tokens : tokens_of text ≡ Ok (heads label op ++ operands)
  tokens = tokens_of_line label op ws said

  pub operands_behind : operands_in (heads label op ++ operands) ≡ operands
  operands_behind = behind_heads label op operands

  -- a line of a known operation, before END
  pub known : (o : Operation) (n : ℕ) (p : Plan) → operation_named op ≡ Some o → p.ended ≡ false
      → is_bad_label o label ≡ false → is_defined label p.labels ≡ false
      → line_gives n text p ≡ operation_line o n label text (op_end label op) operands p
  unfolding line_gives
  known o n p named open_yet fair fresh =
      let ts = heads label op ++ operands in
      let end = op_end label op in
      ap (λ (r : Result (List Token) TextFault). by_kind r >>= λ us. said_line n text us (operation_in us) p)
      tokens
      ∙ ap (λ (t : Option Token). said_line n text ts t p) (op_in_heads label op operands)
      ∙ ap₂ (λ (b : Bool) (x : Option Operation). if b then Err BadDirective else named_line x n (label_in
      text ts) text end (operands_in ts) p)
      open_yet (ap operation_named (op_there label op ws said) ∙ named)
      ∙ ap₂ (λ (l : List ℕ) (us : List Token). named_line (Some o) n l text end us p)
      (label_in_heads text label op operands (label_there label op ws said)) operands_behind
      ∙ ap₂ (λ (b c : Bool). if b then Err BadDirective else (if c then Err DoubleLabel else operation_line o
      n label text end operands p)) fair fresh

-- ---- room for bytes

-- no byte is placed at the location or behind it
abbrev pub IsFree : Plan → Type 0
IsFree p = (list_any (λ b. b) (drop p.here p.taken) ≡ false) × (length p.taken ≡ 1048576)

pub none_in_front : (n : ℕ) (bs : List Bool) → list_any (λ b. b) bs ≡ false
    → list_any (λ b. b) (take n bs) ≡ false
none_in_front zero bs h = refl
none_in_front (suc n) [] h = refl
none_in_front (suc n) (true ∷ bs) h = cc
none_in_front (suc n) (false ∷ bs) h = none_in_front n bs h

pub none_behind : (n : ℕ) (bs : List Bool) → list_any (λ b. b) bs ≡ false
    → list_any (λ b. b) (drop n bs) ≡ false
none_behind zero bs h = h
none_behind (suc n) [] h = refl
none_behind (suc n) (true ∷ bs) h = cc
none_behind (suc n) (false ∷ bs) h = none_behind n bs h

-- what a line leaves that places bytes
pub record HasPlaced (p : Plan) (label : List ℕ) (size : ℕ) (task : Task) (r : Plan) : Type 0 where
  pub here : r.here ≡ p.here + size
  pub free : IsFree r
  pub ended : r.ended ≡ p.ended
  pub cpus : r.cpus ≡ p.cpus
  pub labels : r.labels ≡ table_with label (pos p.here) p.labels
  pub tasks : r.tasks ≡ p.tasks ++ task ∷ []

free_behind : (here n : ℕ) (taken : List Bool) → here + n ≤ length taken
    → list_any (λ b. b) (drop here taken) ≡ false
    → list_any (λ b. b) (drop (here + n) (write_at here (copies n true) taken)) ≡ false
unfolding write_at
free_behind here n taken fits free =
    let front : length (take here taken ++ copies n true) ≡ here + n =
    omega (
      arith,
      length-append (take here taken) (copies n true),
      copies_size n true,
      length-take here
          taken,
    ) in
    let rest : here + length (copies n true) ≡ here + n = ap (λ m. here + m) (copies_size n true) in
    ap (λ (l : List Bool). list_any (λ b. b) (drop (here + n) l))
    (sym (append_assoc (take here taken) (copies n true) (drop (here + length (copies n true)) taken)))
    ∙ ap (list_any (λ b. b)) (drop_at (take here taken ++ copies n true) (drop (here + length (copies n
    true)) taken) (here + n) front)
    ∙ ap (λ m. list_any (λ b. b) (drop m taken)) rest
    ∙ ap (list_any (λ b. b)) (sym (drop-drop n here taken))
    ∙ none_behind n (drop here taken) free

same_size : (here n : ℕ) (taken : List Bool) → here + n ≤ length taken
    → length (write_at here (copies n true) taken) ≡ length taken
unfolding write_at
same_size here n taken fits =
    omega (
      arith,
      length-append (take here taken) (copies n true ++ drop (here + length (copies n true))
          taken),
      length-append (copies n true) (drop (here + length (copies n true)) taken),
      copies_size n true,
      length-take here taken,
      length-drop (here + length (copies n true)) taken,
    )

pub room_is : (n here : ℕ) → 0 < n → 8192 ≤ here → here + n ≤ 1048576 → not (has_room n here) ≡ false
room_is n here some low high =
    ap (λ b. not (not b || (nat_le 8192 here && nat_le (here + n) 1048576))) (lt-ltb 0 n some)
    ∙ ap₂ (λ b c. not (b && c)) (le-leb 8192 here low) (le-leb (here + n) 1048576 high)

pub untaken : (here n : ℕ) (taken : List Bool) → list_any (λ b. b) (drop here taken) ≡ false
    → is_taken here (here + n) taken ≡ false
untaken here n taken free =
    let size : here + n - here ≡ n = omega arith in
    ap (λ m. list_any (λ b. b) (take m (drop here taken))) size ∙ none_in_front n (drop here taken) free

-- an instruction's line, where the location is even and free
module _ (label op : List ℕ) (ws : List Word) (said : IsSaid label op ws) (row size : ℕ) where
  abbrev pub task_at : ℕ → ℕ → Task
  task_at n here = record {
    line = n;
    here = here;
    text = line_with label op ws;
    operation = Instruction row
        None;
  }

  after : ℕ → Plan → Plan
  after n p = tasked n p.here (text label op ws said) (Instruction row None)
      (record (labelled label (pos p.here) p) {
        here = p.here + size;
        taken = write_at p.here (copies size
            true) p.taken;
        begins = slice_set p.begins p.here true;
      })

  leaves : (n : ℕ) (p : Plan) → IsFree p → p.here + size ≤ 1048576 → HasPlaced p label size (task_at n
      p.here) (after n p)
  unfolding after
  leaves n p free high = record {
    here = refl;
    free = (
      free_behind p.here size p.taken (omega (arith, free.1)) free.0,
      same_size p.here size p.taken
          (omega (arith, free.1)) ∙ free.1,
    );
    ended = refl;
    cpus = refl;
    labels = refl;
    tasks = refl;
  }

  pub takes : (n : ℕ) (p : Plan) → operation_named op ≡ Some (Instruction row None) → size_of_row row ≡ size
      → p.ended ≡ false
      → is_defined label p.labels ≡ false → (p.here % 2 == 1) ≡ false → 0 < size → 8192 ≤ p.here → p.here +
      size ≤ 1048576
      → IsFree p → (r : Plan) × (line_gives n (line_with label op ws) p ≡ Ok r) × HasPlaced p label size
      (task_at n p.here) r
  unfolding operation_line instruction_line started placed after
  takes n p named sized open_yet fresh even some low high free =
      let l = labelled label (pos p.here) p in
      let line = line_with label op ws in
      let go : Plan → Result Plan Kind = λ q. Ok (tasked n p.here line (Instruction row None) q) in
      let begin : Plan → Result Plan Kind =
      λ q. Ok (record q { begins = slice_set q.begins p.here true }) in (
        after n p,
        known label op ws said (Instruction row None) n p named open_yet refl fresh
            ∙ ap (λ s. started s l >>= go) sized
            ∙ ap (λ b. (if b then Err OutOfRange else (placed size l >>= begin)) >>= go) even
            ∙ ap₂ (λ b c. (if b then Err OutOfRange else (if c then Err Overlap else Ok (record l {
              here = p.here
                  + size;
              taken = write_at p.here (copies size true) p.taken;
            }))) >>= begin >>= go)
            (room_is size p.here some low high) (untaken p.here size p.taken free.0),
        leaves n p free high,
      )
