-- What the first reading leaves of the lines that place blocks.
use Rattle.std.proofs.Common.{◌≡◌, ℕ, zero, suc, ◌+◌, ◌-◌, ◌*◌, ◌<◌, ◌≤◌, ◌^◌, Bool, true, false, ◌&&◌}
use Rattle.std.proofs.Common.{List, [], ◌∷◌, ◌++◌, length, map, take, drop, Option, Some, None, refl, sym, ap, ap₂}
use Rattle.std.proofs.Common.{◌∙◌, arith, subst, lt-ltb, le-ltb, le-leb, append_assoc, length-append, length-drop}
use Rattle.std.proofs.Common.{slice_index, lit<}
use Rattle.std.specs.Prelude.{pos, Result, Ok, Err, if◌then◌else◌, nat_lt, ◌==◌, codes}
use Rattle.std.specs.List.{list_any, list_all}
use Rattle.std.specs.Char.{to_ascii_uppercase}
use Rattle.std.specs.Fmt.{decimal}
use Rattle.std.proofs.lemmas.Bool.{lt-leb, and_parts, eqb-true, ltb-true, ltb-false}
use Rattle.std.proofs.lemmas.List.{length-take, length-replicate, drop_at, drop-drop, append-nil, get_or-take}
use Rattle.std.proofs.lemmas.List.{get_or-drop, get_or_past}
use Rattle.z_text.specs.Line.{as_read, is_name, keeps_operands_whole}
use Rattle.z_fields.specs.Chain.{◌>>=◌}
use Rattle.z_operands.specs.Operations.{operation_named, directive_named, row_named}
use Rattle.z_operands.specs.Values.{operands_on, one_in}
use Rattle.z_fields.specs.declared.fault.Kind.{Kind}
use Rattle.z_fields.specs.declared.fault.Kind.TheVariants.{OutOfRange, Overlap, BadDirective}
use Rattle.z_operands.specs.declared.operand.Operand.{Operand}
use Rattle.z_operands.specs.declared.operation.Operation.TheVariants as operations
use Rattle.z_reading.specs.Listing.{Plan, Task, line_gives, operation_line, org_line, placed, written, labelled}
use Rattle.z_reading.specs.Listing.{is_below, to_nat}
use Rattle.z_reading.specs.Text.{write_at, copies}
use Rattle.z_deck.specs.Reading.{covers}
use Rattle.z_deck.specs.Writing.{is_zero}
use Rattle.z_deck.specs.Listing.{block_at}
use Rattle.z_deck.proofs.Loaded.{spliced}
use Rattle.listing_laws.proofs.Lines.{words_at, words_lie, visible_line, line_with}
use Rattle.listing_laws.proofs.Numbers.{number}
use Rattle.listing_laws.proofs.Placed.{known, none_behind, untaken, room_is}
use Rattle.listing_laws.proofs.Terms.{one_operand, number_value}
use Rattle.listing_laws.proofs.Texts.{Line, written as line_text}
use Rattle.listing_laws.proofs.Generated.{with_one}
use Rattle.deck_laws.proofs.Digits.{AreBytes}
use Rattle.deck_laws.proofs.Rows.{Row, Runs, runs_on}
use Rattle.deck_laws.proofs.Data.{data_row, data_gives}
use Rattle.z_assemble.proofs.Over.{copies_size}
use Rattle.listing_laws.proofs.Spelled.{near_fits}

-- ---- a line of words as a row

unfoldable pub row_of : Line → Row
row_of l = record {
  text = line_text l;
  visible = visible_line l.label l.op l.ws l.said;
  short = l.said.short;
}

-- ---- lists

written_size : {X : Type 0} (at : ℕ) (new old : List X) → at + length new ≤ length old
    → length (write_at at new old) ≡ length old
unfolding write_at
written_size at new old fits =
    omega (
      arith,
      length-append (take at old) (new ++ drop (at + length new) old),
      length-append new (drop (at + length new) old),
      length-take at old,
      length-drop (at + length new) old,
    )

-- the marks behind bytes that are placed are as before
marks_behind : (here n : ℕ) (taken : List Bool) → here + n ≤ length taken
    → drop (here + n) (write_at here (copies n true) taken) ≡ drop (here + n) taken
unfolding write_at
marks_behind here n taken fits =
    let front : length (take here taken ++ copies n true) ≡ here + n =
    omega (
      arith,
      length-append (take here taken) (copies n true),
      copies_size n true,
      length-take here taken,
    ) in
    let rest : here + length (copies n true) ≡ here + n = ap (λ m. here + m) (copies_size n true) in
    ap (λ (l : List Bool). drop (here + n) l)
    (sym (append_assoc (take here taken) (copies n true) (drop (here + length (copies n true)) taken)))
    ∙ drop_at (take here taken ++ copies n true) (drop (here + length (copies n true)) taken) (here + n) front
    ∙ ap (λ m. drop m taken) rest

module _ (old new : List ℕ) (at address : ℕ) (fits : at + length new ≤ length old) where
  read_written : slice_index (write_at at new old) address
      ≡ (if covers at new address then slice_index new (address - at) else slice_index old address)
  unfolding write_at
  read_written = spliced old new at address fits

  read_below : address < at → slice_index (write_at at new old) address ≡ slice_index old address
  read_below low = read_written
      ∙ ap (λ b. if b && nat_lt address (at + length new) then slice_index new (address - at)
      else slice_index old address) (lt-leb at address low)

  read_inside : at ≤ address → address < at + length new
      → slice_index (write_at at new old) address ≡ slice_index new (address - at)
  read_inside low high = read_written
      ∙ ap₂ (λ b c. if b && c then slice_index new (address - at) else slice_index old address)
      (le-leb at address low) (lt-ltb address (at + length new) high)

  read_behind : at ≤ address → at + length new ≤ address
      → slice_index (write_at at new old) address ≡ slice_index old address
  read_behind low high = read_written
      ∙ ap₂ (λ b c. if b && c then slice_index new (address - at) else slice_index old address)
      (le-leb at address low) (le-ltb address (at + length new) high)

all_zero : (p : List ℕ) → is_zero p ≡ true → (k : ℕ) → slice_index p k ≡ 0
all_zero [] zeros k = refl
all_zero (b ∷ bs) zeros zero = eqb-true b 0 (and_parts (b == 0) (list_all (λ c. c == 0) bs) zeros).0
all_zero (b ∷ bs) zeros (suc k) = all_zero bs (and_parts (b == 0) (list_all (λ c. c == 0) bs) zeros).1 k

-- ---- the line that sets the location

abbrev pub org_at : (a : ℕ) → a < 10 ^ 10 → Line
org_at a few = with_one (codes "ORG") a refl refl refl (omega arith) few

org_is : operation_named (codes "ORG") ≡ Some operations.Org
unfolding operation_named directive_named row_named
org_is = refl

pub org_gives : (a : ℕ) (few : a < 10 ^ 10) (n : ℕ) (p : Plan) → a ≤ 1048576 → p.ended ≡ false
    → line_gives n (line_text (org_at a few)) p ≡ Ok (record p { here = a })
unfolding operation_line org_line
org_gives a few n p low open_yet =
    let l = org_at a few in
    known l.label l.op l.ws l.said operations.Org n p org_is open_yet refl refl
    ∙ ap (λ (r : Result (List Operand) Kind). (r >>= one_in) >>= λ v. if is_below 1048577 v then Ok (record p {
      here = to_nat v;
    }) else Err OutOfRange)
    (one_operand (line_text l) p.labels p.here BadDirective (number a) (pos a) (words_at l.label l.op l.ws)
    (number_value (line_text l) p.labels p.here a (near_fits a few)) (words_lie l.label l.op l.ws l.said))
    ∙ ap (λ b. if b then Ok (record p { here = a }) else Err OutOfRange) (lt-ltb a 1048577 (omega arith))

-- ---- bytes at the location

abbrev with_bytes : List ℕ → Plan → Plan
with_bytes bytes p = record p {
  here = p.here + length bytes;
  taken = write_at p.here (copies (length bytes) true) p.taken;
  storage = write_at p.here bytes p.storage;
}

bytes_placed : (bytes : List ℕ) (p : Plan) → 0 < length bytes → 8192 ≤ p.here → p.here + length bytes ≤ 1048576
    → list_any (λ b. b) (drop p.here p.taken) ≡ false
    → written bytes (labelled [] (pos p.here) p) ≡ Ok (with_bytes bytes p)
unfolding written placed
bytes_placed bytes p some low high free =
    let n = length bytes in
    ap₂ (λ b c. (if b then Err OutOfRange else (if c then Err Overlap else Ok (record p {
      here = p.here + n;
      taken = write_at p.here (copies n true) p.taken;
    }))) >>= λ q. Ok (record q { storage = write_at p.here bytes q.storage }))
    (room_is n p.here some low high) (untaken p.here n p.taken free)

-- ---- blocks

module _ (storage : List ℕ) (size : length storage ≡ 1048576) (low : AreBytes storage) (t : Task) where
  -- so many blocks are placed: what stands in storage before the next one, and that nothing is placed from it on
  pub record State (i : ℕ) (p : Plan) : Type 0 where
    pub open_yet : p.ended ≡ false
    pub free : list_any (λ b. b) (drop (8192 + 32 * i) p.taken) ≡ false
    pub marks : length p.taken ≡ 1048576
    pub count : p.cpus ≡ 1
    pub tasks : p.tasks ≡ t ∷ []
    pub whole : length p.storage ≡ 1048576
    pub done : (a : ℕ) → a < 8192 + 32 * i → slice_index p.storage a ≡ slice_index storage a
    pub rest : (a : ℕ) → 8192 + 32 * i ≤ a → slice_index p.storage a ≡ 0

  block_in : (i a : ℕ) → 8192 + 32 * i ≤ a → a < 8192 + 32 * i + 32
      → slice_index (block_at storage i) (a - (8192 + 32 * i)) ≡ slice_index storage a
  block_in i a from to =
      let place : 8192 + 32 * i + (a - (8192 + 32 * i)) ≡ a = omega arith in
      get_or-take 32 (drop (8192 + 32 * i) storage) (a - (8192 + 32 * i)) 0 (omega arith)
      ∙ get_or-drop (8192 + 32 * i) storage (a - (8192 + 32 * i)) 0 ∙ ap (slice_index storage) place

  pub block_size : (i : ℕ) → i < 32512 → length (block_at storage i) ≡ 32
  block_size i few =
      omega (arith, length-take 32 (drop (8192 + 32 * i) storage), length-drop (8192 + 32 * i) storage, size)

  pub block_bytes : (i : ℕ) → AreBytes (block_at storage i)
  block_bytes i k = by (nat_lt k 32) refl
    where
      by : (b : Bool) → nat_lt k 32 ≡ b → slice_index (block_at storage i) k < 256
      by true is =
          let same : slice_index (block_at storage i) k ≡ slice_index storage (8192 + 32 * i + k) =
          get_or-take 32 (drop (8192 + 32 * i) storage) k 0 (ltb-true k 32 is)
          ∙ get_or-drop (8192 + 32 * i) storage k 0 in
          subst (λ x. x < 256) (sym same) (low (8192 + 32 * i + k))
      by false is =
          let past : 32 ≤ k = ltb-false k 32 is in
          let none : slice_index (block_at storage i) k ≡ 0 =
          get_or_past (block_at storage i) k 0 (omega (arith, length-take 32 (drop (8192 + 32 * i) storage))) in
          subst (λ x. x < 256) (sym none) (omega arith)

  free_on : (i : ℕ) (taken : List Bool) → list_any (λ b. b) (drop (8192 + 32 * i) taken) ≡ false
      → list_any (λ b. b) (drop (8192 + 32 * i + 32) taken) ≡ false
  free_on i taken free =
      ap (list_any (λ b. b)) (sym (drop-drop 32 (8192 + 32 * i) taken))
      ∙ none_behind 32 (drop (8192 + 32 * i) taken) free

  next : (i : ℕ) → 8192 + 32 * i + 32 ≡ 8192 + 32 * suc i
  next i = omega arith

  -- a block that is all zero needs no line
  zero_block : (i : ℕ) (p : Plan) → is_zero (block_at storage i) ≡ true → State i p → State (suc i) p
  zero_block i p zeros s = record {
    open_yet = s.open_yet;
    free = ap (λ m. list_any (λ b. b) (drop m p.taken)) (sym (next i)) ∙ free_on i p.taken s.free;
    marks = s.marks;
    count = s.count;
    tasks = s.tasks;
    whole = s.whole;
    done = λ a to. by a to (nat_lt a (8192 + 32 * i)) refl;
    rest = λ a from. s.rest a (omega arith);
  }
    where
      by : (a : ℕ) → a < 8192 + 32 * suc i → (b : Bool) → nat_lt a (8192 + 32 * i) ≡ b
          → slice_index p.storage a ≡ slice_index storage a
      by a to true is = s.done a (ltb-true a (8192 + 32 * i) is)
      by a to false is =
          let from : 8192 + 32 * i ≤ a = ltb-false a (8192 + 32 * i) is in
          s.rest a from ∙ sym (all_zero (block_at storage i) zeros (a - (8192 + 32 * i)))
          ∙ block_in i a from (omega arith)

  pub address_few : (i : ℕ) → i < 32512 → 8192 + 32 * i < 10 ^ 10
  address_few i few = omega arith

  unfoldable pub block_rows : (i : ℕ) → i < 32512 → List Row
  block_rows i few = row_of (org_at (8192 + 32 * i) (address_few i few))
      ∷ data_row (block_at storage i) (block_bytes i) (block_size i few) ∷ []

  -- another block is placed by its two lines
  module _ (i : ℕ) (few : i < 32512) (p : Plan) (s : State i p) where
    abbrev block : List ℕ
    block = block_at storage i

    abbrev there : Plan
    there = record p { here = 8192 + 32 * i }

    abbrev after : Plan
    after = with_bytes block there

    sized : length block ≡ 32
    sized = block_size i few

    after_is : State (suc i) after
    after_is =
        let fits : 8192 + 32 * i + length block ≤ length p.storage = omega (arith, sized, s.whole) in
        let room : 8192 + 32 * i + length block ≤ length p.taken = omega (arith, sized, s.marks) in
        let on : 8192 + 32 * i + length block ≡ 8192 + 32 * suc i = omega (arith, sized) in
        let longs : 8192 + 32 * i + length (copies (length block) true) ≤ length p.taken =
        omega (arith, room, copies_size (length block) true) in
        record {
          open_yet = s.open_yet;
          free = ap (λ m. list_any (λ b. b) (drop m (write_at (8192 + 32 * i) (copies (length block) true) p.taken)))
              (sym on)
              ∙ ap (list_any (λ b. b)) (marks_behind (8192 + 32 * i) (length block) p.taken room)
              ∙ ap (λ m. list_any (λ b. b) (drop m p.taken)) (ap (λ m. 8192 + 32 * i + m) sized)
              ∙ free_on i p.taken s.free;
          marks = written_size (8192 + 32 * i) (copies (length block) true) p.taken longs ∙ s.marks;
          count = s.count;
          tasks = s.tasks;
          whole = written_size (8192 + 32 * i) block p.storage fits ∙ s.whole;
          done = λ a to. by a to fits (nat_lt a (8192 + 32 * i)) refl;
          rest = λ a from. read_behind p.storage block (8192 + 32 * i) a fits (omega arith) (omega (arith, on))
              ∙ s.rest a (omega arith);
        }
      where
        by : (a : ℕ) → a < 8192 + 32 * suc i → 8192 + 32 * i + length (block_at storage i) ≤ length p.storage
            → (b : Bool) → nat_lt a (8192 + 32 * i) ≡ b
            → slice_index (write_at (8192 + 32 * i) (block_at storage i) p.storage) a ≡ slice_index storage a
        by a to fits true is =
            let under : a < 8192 + 32 * i = ltb-true a (8192 + 32 * i) is in
            read_below p.storage (block_at storage i) (8192 + 32 * i) a fits under ∙ s.done a under
        by a to fits false is =
            let from : 8192 + 32 * i ≤ a = ltb-false a (8192 + 32 * i) is in
            read_inside p.storage (block_at storage i) (8192 + 32 * i) a fits from
            (omega (arith, block_size i few)) ∙ block_in i a from (omega arith)

    rows_run : (n : ℕ) → Runs n (block_rows i few) p after
    unfolding block_rows row_of data_row
    rows_run n = (
      there,
      org_gives (8192 + 32 * i) (address_few i few) n p (omega arith) s.open_yet,
      (
        after,
        data_gives block (block_bytes i) sized (n + 1) there s.open_yet
            ∙ bytes_placed block there (omega (arith, sized)) (omega arith) (omega (arith, sized)) s.free,
        refl {a = after},
      ),
    )

  abbrev pub rows_if : (i : ℕ) → i < 32512 → Bool → List Row
  rows_if i few b = if b then [] else block_rows i few

  pub le_before : (n : ℕ) → suc n ≤ 32512 → n ≤ 32512
  le_before n h = omega arith

  pub below : (n : ℕ) → suc n ≤ 32512 → n < 32512
  below n h = omega arith

  -- the rows of the first so many blocks
  unfoldable pub rows_to : (n : ℕ) → n ≤ 32512 → List Row
  rows_to zero h = []
  rows_to (suc n) h = rows_to n (le_before n h) ++ rows_if n (below n h) (is_zero (block_at storage n))

  pub record Reached (n i : ℕ) (rows : List Row) (p : Plan) : Type 0 where
    pub plan : Plan
    pub runs : Runs n rows p plan
    pub state : State i plan

  block_reached : (n i : ℕ) (few : i < 32512) (p : Plan) (b : Bool) → is_zero (block_at storage i) ≡ b → State i p
      → Reached n (suc i) (rows_if i few b) p
  block_reached n i few p true is s = record { plan = p; runs = refl {a = p}; state = zero_block i p is s }
  block_reached n i few p false is s = record {
    plan = after i few p s;
    runs = rows_run i few p s n;
    state = after_is i few p s;
  }

  pub reached : (i : ℕ) (h : i ≤ 32512) (n : ℕ) (p : Plan) → State 0 p → Reached n i (rows_to i h) p
  unfolding rows_to
  reached zero h n p s = record { plan = p; runs = refl {a = p}; state = s }
  reached (suc i) h n p s =
      let before = reached i (le_before i h) n p s in
      let one = block_reached (n + length (rows_to i (le_before i h))) i (below i h) before.plan
      (is_zero (block_at storage i)) refl before.state in
      record {
        plan = one.plan;
        runs = runs_on n (rows_to i (le_before i h)) (rows_if i (below i h) (is_zero (block_at storage i))) p
            before.plan one.plan before.runs one.runs;
        state = one.state;
      }
