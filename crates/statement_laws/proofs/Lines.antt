-- What holds of the lines of a text that stands for an image.
use Rattle.std.proofs.Common.{◌≡◌, ℕ, ℤ, ◌+◌, ◌<◌, true, false, List, [], ◌∷◌, ◌++◌}
use Rattle.std.proofs.Common.{length}
use Rattle.std.proofs.Common.{get_or, Option, Some, Ok, inl, inr, refl, sym, ap, ◌∙◌, ◌↔◌}
use Rattle.std.proofs.Common.{subst, arith}
use Rattle.std.specs.Prelude.{All, AllPairs}
use Rattle.std.specs.List.{Contains, flat_map}
use Rattle.std.proofs.lemmas.Bool.{false≢true, cases_lt, cases_eq, false_from_ne_true}
use Rattle.std.proofs.lemmas.List.{get_or_default}
use Rattle.std.proofs.lemmas.List.Elements.{All-cons, All-nil, All-contains, All-contains_itself}
use Rattle.tx_journal.specs.Content.{Content}
use Rattle.tx_ladder.specs.Parameters.{usual}
use Rattle.z_setup.specs.declared.parameter.Parameter.{Parameter}
use Rattle.z_operands.specs.Operations.{size_of_row}
use Rattle.z_operands.specs.Values.{Table}
use Rattle.z_operands.specs.declared.operation.Operation.{Operation}
use Rattle.z_operands.specs.declared.operation.Operation.TheVariants.{Instruction}
use Rattle.z_reading.specs.Listing.{Plan, operands_in}
use Rattle.z_setup.specs.Machine.{Known, tokens_in}
use Rattle.statement_laws.specs.Statements.{Statement, statements_of, IsNamed, HaveOtherLabels, Stand, IsPlaced}
use Rattle.statement_laws.specs.Statements.{events_of, values_of, last_or, entry_of, shows_of, prefixes_of}
use Rattle.statement_laws.specs.Statements.{as_list, numbers_of, number_in}
use Rattle.statement_laws.specs.Statements.{Covers}
use Rattle.statement_laws.specs.Statements.{AreApart, bytes_with, IsInstruction, IsStarted}
use Rattle.z_reading.specs.Text.{lines_of, copies}
use Rattle.z_assemble.specs.Whole.{Stands, blank, ready, known_in, image_of, places_from, ready_for}
use Rattle.statement_laws.proofs.Acted.{Walk, walk, first_is}
use Rattle.statement_laws.proofs.Begun.{all_begun, place_there}
use Rattle.z_assemble.proofs.Codes.{stays}
use Rattle.statement_laws.proofs.Events.{events_are}
use Rattle.statement_laws.proofs.Given.{registers_are, IsThere}
use Rattle.statement_laws.proofs.Shown.{shows_are}
use Rattle.statement_laws.proofs.Prefixes.{prefixes_are}
use Rattle.statement_laws.proofs.Numbers.{numbers_are}
use Rattle.statement_laws.proofs.Entered.{entries_again, entries_count, entries_of, all_entered}
use Rattle.statement_laws.proofs.Counted.{all_counted}
use Rattle.z_assemble.proofs.Images.{ready_storage, are_read}
use Rattle.z_regs.specs.Cpu.{Cpu, started}
use Rattle.std.proofs.Common.{replicate, map}
use Rattle.std.proofs.lemmas.Grind.{same_number_lists}
use Rattle.std.proofs.lemmas.List.{get_or-replicate, length-replicate, length-map, get_or-map}
use Rattle.statement_laws.proofs.Laid.{all_laid, laid_once, LayApart, laid_with, LaysAt, Laid, IsClean, all_clean}
use Rattle.statement_laws.proofs.Laid.{marks_from, IsInside}
use Rattle.statement_laws.proofs.Named.{labels_from, labels_given, named_once}
use Rattle.z_assemble.proofs.Over.{copies_size, copies_at}
use Rattle.z_assemble.proofs.Passed.{same_ok}
use Rattle.z_assemble.proofs.Plans.{first_fits, IsPlan, Places, PlacesAt, IsTaken, BeginsAt}
use Rattle.statement_laws.proofs.Tasks.{tasks_are, tasks_of, tasks_by, task_by, task_from, task_there}
use Rattle.z_assemble.proofs.Texts.{start_marked}
use Rattle.statement_laws.proofs.Tasks.{all_written, IsWritten, bytes_size, code_on}

walked : (text : List ℕ) (image : Content) (s : Stands text image) → Walk (statements_of text) blank s.plan
walked text image s = walk 1 (lines_of text) blank s.plan s.first

-- ---- labels

no_label_first : (name : List ℕ) (v : ℤ) → blank.labels name ≡ Some v → ⊥
unfolding blank
no_label_first name v e = absurd (cc)

pub labels_hold : (text : List ℕ) (image : Content) (s : Stands text image) (name : List ℕ) (v : ℤ) →
    s.plan.labels name ≡ Some v ↔ IsNamed (statements_of text) name v
labels_hold text image s name v = (
  λ e. elim (labels_from (statements_of text) blank s.plan name v (walked text image s) e) [
    | inl o ↦ absurd (no_label_first name v o)
    | inr n ↦ n
  ],
  λ n. labels_given (statements_of text) blank s.plan n.statement name v
      (walked text image s) n.among n.defines,
)

pub labels_once : (text : List ℕ) (image : Content) → Stands text image →
    AllPairs HaveOtherLabels (statements_of text)
labels_once text image s = named_once (statements_of text) blank s.plan (walked text image s)

-- ---- the storage and the lines that are left

blank_clean : IsClean blank.storage blank.taken
unfolding blank
blank_clean = record {
  size = copies_size 1048576 0;
  marks = copies_size 1048576 false;
  zero = λ at e. copies_at 1048576 0 at;
}

blank_free : (at : ℕ) → get_or blank.taken at false ≡ true → ⊥
unfolding blank
blank_free at e = false≢true (sym (copies_at 1048576 false at) ∙ e)

blank_tasks : blank.tasks ≡ []
unfolding blank
blank_tasks = refl

-- the last value of storage
image_storage : (text : List ℕ) (image : Content) (s : Stands text image) → image.storage ≡ s.machine.storage
unfolding image_of
image_storage text image s = ap (λ (i : Content). i.storage) s.is

all_tasks : (text : List ℕ) (image : Content) (s : Stands text image) →
    s.plan.tasks ≡ flat_map tasks_of (statements_of text)
all_tasks text image s =
    tasks_are (statements_of text) blank s.plan (walked text image s)
    ∙ ap (λ ts. ts ++ flat_map tasks_of (statements_of text)) blank_tasks

ready_size : (p : Plan) → IsPlan p → length (ready p).storage ≡ 1048576
ready_size p f = ap length (ready_storage p.storage p.cpus) ∙ f.size

-- a byte that no line places again is as the first reading left it
final_byte : (text : List ℕ) (image : Content) (s : Stands text image) (at : ℕ) →
    All (λ t. Places t at → ⊥) s.plan.tasks → get_or image.storage at 0 ≡ get_or s.plan.storage at 0
final_byte text image s at none =
    let f = first_fits 1 (lines_of text) s.plan s.first in
    ap (λ q. get_or q at 0) (image_storage text image s)
    ∙ stays (known_in s.plan) s.plan.tasks (ready s.plan) s.machine s.second f.within
    (ready_size s.plan f) at none
    ∙ ap (λ q. get_or q at 0) (ready_storage s.plan.storage s.plan.cpus)

-- ---- lists

-- elements that no two places share
same_at : {X : Type 0} (R : X → X → Type 0) (xs : List X) (x y : X) (i j : ℕ) → AllPairs R xs →
    i < length xs →
    j < length xs → get_or xs i x ≡ x → get_or xs j y ≡ y → (R x y → ⊥) → (R y x → ⊥) → x ≡ y
same_at {X} R xs x y i j pairs h k e f former latter =
    elim (cases_eq i j) [
      | inl s ↦ sym e ∙ get_or_default xs i x y h ∙ ap (λ n. get_or xs n y) s ∙ f
      | inr d ↦ elim (cases_lt i j) [
        | inl l ↦
            let r : R x (get_or xs j x) = subst (λ z. R z (get_or xs j x)) e (pairs i j x l k) in
            absurd (former (subst (R x) (get_or_default xs j x y k ∙ f) r))
        | inr g ↦
            let r : R y (get_or xs i y) = subst (λ z. R z (get_or xs i y)) f (pairs j i y (omega arith) h) in
            absurd (latter (subst (R y) (get_or_default xs i y x h ∙ e) r))
      ]
    ]

same_place : {X : Type 0} (R : X → X → Type 0) (xs : List X) (x y : X) → AllPairs R xs → Contains xs x →
    Contains xs y → (R x y → ⊥) → (R y x → ⊥) → x ≡ y
same_place R xs x y pairs a b former latter =
    same_at R xs x y a.0 b.0 pairs a.1 b.1 a.2 b.2 former latter

all_of : {X : Type 0} (P : X → Type 0) (xs : List X) → ((x : X) → Contains xs x → P x) → All P xs
all_of P xs h k d l = h (get_or xs k d) (All-contains_itself xs k d l)

-- ---- bytes of the first and of the second reading

-- as many bytes in both readings, where there are any in the second
laid_size : (op : Operation) (labels : Table) (s : Statement) (bytes : List ℕ) →
    bytes_with op labels s ≡ Ok bytes →
    (laid : List ℕ) × (laid_with op s ≡ Ok laid) × (length laid ≡ length bytes)
laid_size (Instruction row mask) labels s bytes e =
    let k : Known = record { labels = labels; tasks = [] } in (
      copies (size_of_row row) 0,
      refl,
      copies_size (size_of_row row) 0
          ∙ sym (bytes_size k row mask s.here s.text s.operands bytes e),
    )
laid_size _ labels s bytes e = (bytes, e, refl)

covers_lays : (labels : Table) (s : Statement) (at : ℕ) → Covers labels s at → LaysAt s at
covers_lays labels s at c =
    let l = laid_size s.operation labels s c.bytes c.are in
    record { bytes = l.0; are = l.1; inside = (c.low, omega (arith, l.2, c.high)) }

pub bytes_once : (text : List ℕ) (image : Content) (s : Stands text image) →
    AllPairs (AreApart s.plan.labels) (statements_of text)
bytes_once text image s = λ i j d l h at a b.
    laid_once (statements_of text) blank s.plan (walked text image s) blank_clean i j d l h at
    (covers_lays s.plan.labels (get_or (statements_of text) i d) at a)
    (covers_lays s.plan.labels (get_or (statements_of text) j d) at b)

-- ---- a directive's bytes stay

places_lays : (s : Statement) (op : Operation) (at : ℕ) → PlacesAt s.here op at →
    IsInstruction op × ((bytes : List ℕ) × (laid_with op s ≡ Ok bytes) × IsInside s.here (length bytes) at)
places_lays s (Instruction row mask) at p =
    let n : length (copies {X = ℕ} (size_of_row row) 0) ≡ size_of_row row = copies_size (size_of_row row) 0 in
    (tt, (copies (size_of_row row) 0, refl, (p.0, omega (arith, p.1))))
places_lays s _ at p = absurd p

no_task : (text : List ℕ) (image : Content) (s : Stands text image) (line : Statement) (at : ℕ) →
    Contains (statements_of text) line → LaysAt line at → (IsInstruction line.operation → ⊥) →
    All (λ t. Places t at → ⊥) s.plan.tasks
no_task text image s line at c l plain =
    let ss = statements_of text in
    all_of (λ t. Places t at → ⊥) s.plan.tasks (λ t among places.
    let o = task_from ss t (subst (λ ts. Contains ts t) (all_tasks text image s) among) in
    let p = places_lays o.statement o.statement.operation at (subst (λ u. Places u at) o.is places) in
    let there : LaysAt o.statement at = record { bytes = p.1.0; are = p.1.1; inside = p.1.2 } in
    let once = laid_once ss blank s.plan (walked text image s) blank_clean in
    let same = same_place LayApart ss line o.statement once c o.among (λ r. r at l there)
    (λ r. r at there l) in
    plain (subst (λ (x : Statement). IsInstruction x.operation) (sym same) p.0))

-- ---- each statement's bytes

tokens_all : (ss : List Statement) (p q : Plan) → Walk ss p q →
    All (λ s. s.operands ≡ operands_in (tokens_in s.text)) ss
tokens_all [] p q w = All-nil (λ s. s.operands ≡ operands_in (tokens_in s.text))
tokens_all (s ∷ ss) p q w =
    All-cons (λ t. t.operands ≡ operands_in (tokens_in t.text)) s ss w.1.tokens (tokens_all ss w.0 q w.2)

-- the lines that are read again leave their code
codes_stand : (text : List ℕ) (image : Content) (s : Stands text image) →
    All (λ t. IsWritten (known_in s.plan) s.machine.storage t.here t.text t.operation) s.plan.tasks
codes_stand text image s =
    let f = first_fits 1 (lines_of text) s.plan s.first in
    all_written (known_in s.plan) s.plan.tasks (ready s.plan) s.machine s.second f.within f.apart
    (ready_size s.plan f)

abbrev HasBytesThere : Operation → Table → Statement → List ℕ → Type 0
HasBytesThere op labels line storage =
    (bytes : List ℕ) × (bytes_with op labels line ≡ Ok bytes) × Stand bytes line.here storage

instruction_there : (row : ℕ) (mask : Option ℕ) (text : List ℕ) (image : Content) (s : Stands text image)
    (line : Statement) → line.operation ≡ Instruction row mask → Contains (statements_of text) line →
    HasBytesThere (Instruction row mask) s.plan.labels line image.storage
instruction_there row mask text image s line is c =
    let ss = statements_of text in
    let k = known_in s.plan in
    let t = task_by (Instruction row mask) line in
    let own : Contains (tasks_of line) t =
    subst (λ op. Contains (tasks_by op line) t) (sym is) (first_is t []) in
    let among : Contains s.plan.tasks t =
    subst (λ ts. Contains ts t) (sym (all_tasks text image s)) (task_there ss line t c own) in
    let h = All-contains (λ u. IsWritten k s.machine.storage u.here u.text u.operation) s.plan.tasks t
    (codes_stand text image s) among in
    let tokens = All-contains (λ u. u.operands ≡ operands_in (tokens_in u.text)) ss line
    (tokens_all ss blank s.plan (walked text image s)) c in (
      h.bytes,
      ap (λ os. code_on k row mask line.here line.text os) tokens ∙ h.are,
      subst (λ q. Stand h.bytes line.here q) (sym (image_storage text image s)) h.stand,
    )

laid_there : (text : List ℕ) (image : Content) (s : Stands text image) (line : Statement) →
    Contains (statements_of text) line → Laid line s.plan.storage s.plan.taken
laid_there text image s line c =
    All-contains (λ u. Laid u s.plan.storage s.plan.taken) (statements_of text) line
    (all_laid (statements_of text) blank s.plan (walked text image s) blank_clean) c

-- the bytes of a directive stay as the first reading laid them
laid_stand : (text : List ℕ) (image : Content) (s : Stands text image) (line : Statement) →
    (c : Contains (statements_of text) line) → (IsInstruction line.operation → ⊥) →
    Stand (laid_there text image s line c).bytes line.here image.storage
laid_stand text image s line c plain i h =
    let l = laid_there text image s line c in
    let there : LaysAt line (line.here + i) =
    record { bytes = l.bytes; are = l.are; inside = (omega arith, omega arith) } in
    final_byte text image s (line.here + i) (no_task text image s line (line.here + i) c there plain)
    ∙ l.stand i h

bytes_there : (op : Operation) (text : List ℕ) (image : Content) (s : Stands text image) (line : Statement) →
    line.operation ≡ op → Contains (statements_of text) line →
    HasBytesThere op s.plan.labels line image.storage
bytes_there (Instruction row mask) text image s line is c = instruction_there row mask text image s line is c
bytes_there _ text image s line is c =
    let l = laid_there text image s line c in (
      l.bytes,
      subst (λ op. laid_with op line ≡ Ok l.bytes) is l.are,
      laid_stand text image s line c (λ i. subst (λ op. IsInstruction op) is i),
    )

pub bytes_placed : (text : List ℕ) (image : Content) (s : Stands text image) →
    All (IsPlaced s.plan.labels image.storage) (statements_of text)
bytes_placed text image s =
    all_of (IsPlaced s.plan.labels image.storage) (statements_of text) (λ line c.
    let b = bytes_there line.operation text image s line refl c in
    record { bytes = b.0; are = b.1; stand = b.2 })

-- ---- the other bytes

lays_covers : (text : List ℕ) (image : Content) (s : Stands text image) (line : Statement) (at : ℕ) →
    Contains (statements_of text) line → LaysAt line at → Covers s.plan.labels line at
lays_covers text image s line at c l =
    let p = All-contains (IsPlaced s.plan.labels image.storage) (statements_of text) line
    (bytes_placed text image s) c in
    let size = laid_size line.operation s.plan.labels line p.bytes p.are in
    let same : size.0 ≡ l.bytes = same_ok size.0 l.bytes (sym size.1 ∙ l.are) in
    let n : length size.0 ≡ length l.bytes = ap length same in
    record { bytes = p.bytes; are = p.are; low = l.inside.0; high = omega (arith, l.inside.1, size.2, n) }

pub others_zero : (text : List ℕ) (image : Content) (s : Stands text image) (at : ℕ) →
    All (λ line. Covers s.plan.labels line at → ⊥) (statements_of text) → get_or image.storage at 0 ≡ 0
others_zero text image s at none =
    let ss = statements_of text in
    let w = walked text image s in
    let f = first_fits 1 (lines_of text) s.plan s.first in
    let free : get_or s.plan.taken at false ≡ false =
    false_from_ne_true (get_or s.plan.taken at false) (λ t. elim (marks_from ss blank s.plan w blank_clean at t) [
      | inl o ↦ blank_free at o
      | inr a ↦ All-contains (λ line. Covers s.plan.labels line at → ⊥) ss a.statement none a.among
          (lays_covers text image s a.statement at a.among a.lays)
    ]) in
    final_byte text image s at
    (all_of (λ t. Places t at → ⊥) s.plan.tasks (λ t among p.
    false≢true (sym free ∙ All-contains (IsTaken s.plan.taken) s.plan.tasks t f.taken_all among at p)))
    ∙ (all_clean ss blank s.plan w blank_clean).zero at free

-- ---- the addresses of instructions

blank_begins : length blank.begins ≡ 1048576
unfolding blank
blank_begins = copies_size 1048576 false

image_starts : (text : List ℕ) (image : Content) (s : Stands text image) →
    image.starts ≡ places_from 0 s.plan.begins
unfolding image_of
image_starts text image s = ap (λ (i : Content). i.starts) s.is

begins_starts : (o : Statement) (op : Operation) (at : ℕ) → BeginsAt o.here op at →
    IsInstruction op × (o.here ≡ at)
begins_starts o (Instruction row mask) at b = (tt, b)
begins_starts o _ at b = absurd b

begun_by : (text : List ℕ) (image : Content) (s : Stands text image) (at : ℕ) →
    get_or s.plan.begins at false ≡ true → IsStarted (statements_of text) at
begun_by text image s at e =
    let b = (first_fits 1 (lines_of text) s.plan s.first).marks at e in
    let o = task_from (statements_of text) b.task
    (subst (λ ts. Contains ts b.task) (all_tasks text image s) b.among) in
    let t = begins_starts o.statement o.statement.operation at
    (subst (λ u. BeginsAt u.here u.operation at) o.is b.begins) in
    record { statement = o.statement; among = o.among; instruction = t.0; here = t.1 }

pub starts_hold : (text : List ℕ) (image : Content) (s : Stands text image) (at : ℕ) →
    Contains image.starts at ↔ IsStarted (statements_of text) at
starts_hold text image s at = (
  λ c.
      let d = subst (λ xs. Contains xs at) (image_starts text image s) c in
      let marks = s.plan.begins in
      let is : get_or (places_from 0 marks) d.0 0 ≡ at =
      get_or_default (places_from 0 marks) d.0 0 at d.1 ∙ d.2 in
      begun_by text image s at (subst (λ x. get_or marks x false ≡ true) is (start_marked marks d.0 d.1)),
  λ i. subst (λ xs. Contains xs at) (sym (image_starts text image s))
      (place_there 0 s.plan.begins at at (omega arith)
      (subst (λ x. get_or s.plan.begins x false ≡ true) i.here
      (all_begun (statements_of text) blank s.plan (walked text image s) blank_begins i.statement i.among
      i.instruction))),
)

-- ---- events

pub no_events_first : (storage : List ℕ) (n : ℕ) → (ready_for storage n).schedule ≡ []
unfolding ready_for
no_events_first storage n = refl

image_schedule : (text : List ℕ) (image : Content) (s : Stands text image) →
    image.schedule ≡ s.machine.schedule
unfolding image_of
image_schedule text image s = ap (λ (i : Content). i.schedule) s.is

pub events_hold : (text : List ℕ) (image : Content) → Stands text image →
    image.schedule ≡ flat_map events_of (statements_of text)
events_hold text image s =
    image_schedule text image s
    ∙ events_are (known_in s.plan) (statements_of text) blank s.plan s.plan.tasks (ready s.plan) s.machine
    (walked text image s) (all_tasks text image s) s.second (no_events_first s.plan.storage s.plan.cpus)

-- ---- what is shown

none_shown_first : (storage : List ℕ) (n : ℕ) → (ready_for storage n).shows ≡ []
unfolding ready_for
none_shown_first storage n = refl

image_shows : (text : List ℕ) (image : Content) (s : Stands text image) → image.shows ≡ s.machine.shows
unfolding image_of
image_shows text image s = ap (λ (i : Content). i.shows) s.is

pub shows_hold : (text : List ℕ) (image : Content) (s : Stands text image) →
    image.shows ≡ flat_map (shows_of s.plan.labels) (statements_of text)
shows_hold text image s =
    image_shows text image s
    ∙ shows_are (known_in s.plan) (statements_of text) blank s.plan s.plan.tasks (ready s.plan) s.machine
    (walked text image s) (all_tasks text image s) s.second (none_shown_first s.plan.storage s.plan.cpus)

-- ---- the numbers of the retry ladder

usual_first : (storage : List ℕ) (n : ℕ) → (ready_for storage n).parms ≡ usual
unfolding ready_for
usual_first storage n = refl

image_parms : (text : List ℕ) (image : Content) (s : Stands text image) → image.parms ≡ s.machine.parms
unfolding image_of
image_parms text image s = ap (λ (i : Content). i.parms) s.is

pub numbers_hold : (text : List ℕ) (image : Content) (s : Stands text image) (p : Parameter) →
    number_in p image.parms
    ≡ last_or (number_in p usual) (flat_map (numbers_of s.plan.labels p) (statements_of text))
numbers_hold text image s p =
    ap (number_in p) (image_parms text image s)
    ∙ numbers_are p (known_in s.plan) (statements_of text) blank s.plan s.plan.tasks (ready s.plan) s.machine
    (walked text image s) (all_tasks text image s) s.second
    ∙ ap (λ x. last_or (number_in p x) (flat_map (numbers_of s.plan.labels p) (statements_of text)))
    (usual_first s.plan.storage s.plan.cpus)

-- ---- registers

image_cpus : (text : List ℕ) (image : Content) (s : Stands text image) → image.cpus ≡ s.machine.cpus
unfolding image_of
image_cpus text image s = ap (λ (i : Content). i.cpus) s.is

ready_cpus : (storage : List ℕ) (n : ℕ) → (ready_for storage n).cpus ≡ replicate n (started 0)
unfolding ready_for
ready_cpus storage n = refl

ready_general : (p : Plan) (cpu : ℕ) (d : Cpu) → cpu < p.cpus →
    (get_or (ready p).cpus cpu d).general ≡ replicate 16 0
ready_general p cpu d h =
    ap (λ cs. (get_or cs cpu d).general) (ready_cpus p.storage p.cpus)
    ∙ ap (λ (c : Cpu). c.general) (get_or-replicate p.cpus cpu (started 0) d h)

ready_prefix : (p : Plan) (cpu : ℕ) (d : Cpu) → cpu < p.cpus → as_list (get_or (ready p).cpus cpu d).prefix ≡ []
ready_prefix p cpu d h =
    ap (λ cs. as_list (get_or cs cpu d).prefix) (ready_cpus p.storage p.cpus)
    ∙ ap (λ (c : Cpu). as_list c.prefix) (get_or-replicate p.cpus cpu (started 0) d h)

ready_count : (p : Plan) → length (ready p).cpus ≡ p.cpus
ready_count p = ap length (ready_cpus p.storage p.cpus) ∙ length-replicate p.cpus (started 0)

-- as many CPUs as there were at first
image_count : (text : List ℕ) (image : Content) (s : Stands text image) → length image.cpus ≡ s.plan.cpus
image_count text image s =
    ap length (image_cpus text image s)
    ∙ (are_read s.plan s.machine (first_fits 1 (lines_of text) s.plan s.first) s.second).machine.cpus.count_is

pub registers_hold : (text : List ℕ) (image : Content) (s : Stands text image) (cpu r : ℕ) (d : Cpu) →
    cpu < length image.cpus → r < 16 →
    get_or (get_or image.cpus cpu d).general r 0
    ≡ last_or 0 (flat_map (values_of s.plan.labels cpu r) (statements_of text))
registers_hold text image s cpu r d h l =
    let n = image_count text image s in
    let g = ready_general s.plan cpu d (omega arith) in
    let c = ready_count s.plan in
    let there : IsThere cpu r d (ready s.plan) =
    record { there = omega arith; size = ap length g ∙ length-replicate {A = ℕ} 16 0 } in
    ap (λ cs. get_or (get_or cs cpu d).general r 0) (image_cpus text image s)
    ∙ registers_are cpu r d (known_in s.plan) (statements_of text) blank s.plan s.plan.tasks
    (ready s.plan) s.machine
    (walked text image s) (all_tasks text image s) s.second l there
    (ap (λ q. get_or q r 0) g ∙ get_or-replicate 16 r 0 0 l)

-- ---- prefixes

pub prefixes_hold : (text : List ℕ) (image : Content) (s : Stands text image) (cpu : ℕ) (d : Cpu) →
    cpu < length image.cpus →
    as_list (get_or image.cpus cpu d).prefix
    ≡ flat_map (prefixes_of s.plan.labels cpu) (statements_of text)
prefixes_hold text image s cpu d h =
    let n = image_count text image s in
    let c = ready_count s.plan in
    ap (λ cs. as_list (get_or cs cpu d).prefix) (image_cpus text image s)
    ∙ prefixes_are cpu d (known_in s.plan) (statements_of text) blank s.plan s.plan.tasks (ready s.plan)
    s.machine (walked text image s) (all_tasks text image s) s.second (omega arith)
    (ready_prefix s.plan cpu d (omega arith))

-- ---- CPUs

no_cpus_first : blank.cpus ≡ 0
unfolding blank
no_cpus_first = refl

none_entered : (storage : List ℕ) (n : ℕ) → (ready_for storage n).entered ≡ 0
unfolding ready_for
none_entered storage n = refl

-- as many lines that are read again have a CPU enter as there are CPUs
again_count : (text : List ℕ) (image : Content) (s : Stands text image) →
    length (flat_map (entries_again (known_in s.plan)) s.plan.tasks) ≡ s.plan.cpus
again_count text image s =
    let ss = statements_of text in
    let n = entries_count (known_in s.plan) ss s.plan.tasks (ready s.plan) s.machine
    (all_tasks text image s) s.second in
    let c = all_counted ss blank s.plan (walked text image s) in
    let z = no_cpus_first in
    omega (arith, n, c, z)

pub entries_hold : (text : List ℕ) (image : Content) (s : Stands text image) →
    map (λ (c : Cpu). c.address) image.cpus ≡ flat_map (entry_of s.plan.labels) (statements_of text)
entries_hold text image s =
    let k = known_in s.plan in
    let m = ready s.plan in
    let values = flat_map (entries_again k) s.plan.tasks in
    let zero_first : m.entered ≡ 0 = none_entered s.plan.storage s.plan.cpus in
    let n : length values ≡ s.plan.cpus = again_count text image s in
    let c : length m.cpus ≡ s.plan.cpus = ready_count s.plan in
    let a = all_entered k s.plan.tasks m s.machine s.second (omega arith) in
    let count : length image.cpus ≡ s.plan.cpus = image_count text image s in
    let size : length (map (λ (c : Cpu). c.address) image.cpus) ≡ length values =
    length-map image.cpus (λ (c : Cpu). c.address) ∙ (omega arith) in
    same_number_lists (map (λ (c : Cpu). c.address) image.cpus) values size
    (λ i l.
    let long : length (map (λ (c : Cpu). c.address) image.cpus) ≡ length image.cpus =
    length-map image.cpus (λ (c : Cpu). c.address) in
    let inside : i < length image.cpus = omega arith in
    get_or-map (λ (c : Cpu). c.address) image.cpus i (started 0) 0 inside
    ∙ ap (λ cs. (get_or cs i (started 0)).address) (image_cpus text image s)
    ∙ a.there i i (started 0) (omega arith) (omega arith))
    ∙ ap (flat_map (entries_again k)) (all_tasks text image s)
    ∙ entries_of k (statements_of text) blank s.plan (walked text image s)
