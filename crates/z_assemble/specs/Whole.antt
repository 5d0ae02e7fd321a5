-- What a text stands for, and its first fault.
use Rattle.std.specs.Prelude.{◌≡◌, ℕ, suc, ◌+◌, ◌-◌, ◌/◌, Bool, true, false, cond, List, [], ◌∷◌, ◌++◌}
use Rattle.std.specs.Prelude.{length, replicate, None, Result, Ok, Err, nat_lt, ◌==◌, if◌then◌else◌, ◌⊎◌}
use Rattle.std.specs.FinSet.{FinSet, empty, insert}
use Rattle.std.specs.Ordering.{nat_cmp}
use Rattle.z_regs.specs.Cpu.{started}
use Rattle.tx_journal.specs.Content.{Content}
use Rattle.tx_journal.specs.Image.{length_at}
use Rattle.tx_ladder.specs.Parameters.{usual}
use Rattle.z_fields.specs.Kinds.{number_of}
use Rattle.z_reading.specs.Listing.{Plan, Task, line_gives}
use Rattle.z_setup.specs.Machine.{Machine, Known, task_gives}
use Rattle.z_fields.specs.Pieces.{without_end}
use Rattle.z_reading.specs.Text.{lines_of, copies}
use Rattle.z_operands.specs.Values.{Table}
use Rattle.z_assemble.specs.declared.fault.AssembleFault.{AssembleFault}
use Rattle.z_assemble.specs.declared.fault.AssembleFault.TheVariants as ends
use Rattle.z_fields.specs.declared.fault.Kind.{Kind}
use Rattle.z_fields.specs.declared.fault.Kind.TheVariants.{ListingTooLong, TooManyLines, NoCpu}
use Rattle.z_assemble.specs.declared.fault.ListingFault.{ListingFault}

abbrev pub fault_at : ℕ → Kind → ListingFault
fault_at line kind = record { line = line; kind = number_of kind }

abbrev pub no_label : Table
no_label = λ q. None

-- nothing is placed, and the location is hex 4000
unfoldable pub blank : Plan
blank = record {
  here = 16384;
  labels = no_label;
  storage = copies 1048576 0;
  taken = copies 1048576 false;
  begins = copies 1048576 false;
  ended = false;
  cpus = 0;
  tasks = [];
}

-- as many CPUs as there are CPU lines, at address 0 and with zeros
unfoldable pub ready_for : List ℕ → ℕ → Machine
ready_for storage cpus = record {
  storage = storage;
  cpus = replicate cpus (started 0);
  entered = 0;
  shows = [];
  schedule = [];
  scheduled = false;
  parms = usual;
}

abbrev pub ready : Plan → Machine
ready p = ready_for p.storage p.cpus

abbrev pub known_in : Plan → Known
known_in p = record { labels = p.labels; tasks = p.tasks }

-- ---- the image

-- the places of the marks, where the first mark has this place
unfoldable pub places_from : ℕ → List Bool → List ℕ
places_from n [] = []
places_from n (mark ∷ marks) = cond mark (n ∷ places_from (suc n) marks) (places_from (suc n) marks)

abbrev pub with_place : Bool → ℕ → List ℕ → List ℕ
with_place mark place places = cond mark (places ++ place ∷ []) places

abbrev pub Pages : Type 0
Pages = FinSet nat_cmp

abbrev pub with_page : ℕ → Pages → Pages
with_page page pages = if nat_lt page 256 then insert pages page else pages

-- the pages with those of the first and the last byte of an instruction
abbrev pub with_pages : List ℕ → ℕ → Pages → Pages
with_pages storage start pages = with_page ((start + length_at storage start - 1) / 4096)
    (with_page (start / 4096) pages)

-- the pages with those of all instructions
unfoldable pub pages_with : List ℕ → List ℕ → Pages → Pages
pages_with storage [] pages = pages
pages_with storage (s ∷ ss) pages = pages_with storage ss (with_pages storage s pages)

unfoldable pub image_of : List Bool → Machine → Content
image_of begins m =
    let starts = places_from 0 begins in
    record {
      storage = m.storage;
      guard = pages_with m.storage starts empty;
      starts = starts;
      cpus = m.cpus;
      shows = m.shows;
      schedule = m.schedule;
      scheduled = m.scheduled;
      parms = m.parms;
    }

-- ---- one reading after the other

infixl 10 ◌>>=◌
abbrev pub ◌>>=◌ : {A B : Type 0} → Result A ListingFault → (A → Result B ListingFault) →
    Result B ListingFault
(Ok x) >>= f = f x
(Err e) >>= f = Err e

abbrev pub on : {A : Type 0} → ℕ → Result A Kind → Result A ListingFault
on n (Ok x) = Ok x
on n (Err k) = Err (fault_at n k)

abbrev pub first_on : ℕ → List ℕ → Plan → Result Plan ListingFault
first_on n line p = on n (line_gives n (without_end line) p)

unfoldable pub first_over : ℕ → List (List ℕ) → Plan → Result Plan ListingFault
first_over n [] p = Ok p
first_over n (l ∷ ls) p = first_on n l p >>= first_over (n + 1) ls

abbrev pub second_on : Known → Task → Machine → Result Machine ListingFault
second_on k t m = on t.line (task_gives k t m)

unfoldable pub second_over : Known → List Task → Machine → Result Machine ListingFault
second_over k [] m = Ok m
second_over k (t ∷ ts) m = second_on k t m >>= second_over k ts

abbrev pub finished : Plan → Machine → Result Content ListingFault
finished p m = if p.cpus == 0 then Err (fault_at 0 NoCpu) else Ok (image_of p.begins m)

abbrev pub after_first : Plan → Result Content ListingFault
after_first p = second_over (known_in p) p.tasks (ready p) >>= finished p

-- the most bytes that a listing may have, and the most lines
abbrev pub most_bytes : ℕ
most_bytes = 16777216

abbrev pub most_lines : ℕ
most_lines = 262144

abbrev pub over_lines : List (List ℕ) → Result Content ListingFault
over_lines lines = if nat_lt most_lines (length lines) then Err
    (fault_at 0 TooManyLines) else first_over 1 lines blank >>= after_first

unfoldable pub assembled : List ℕ → Result Content ListingFault
assembled text = if nat_lt most_bytes (length text) then Err (fault_at 0 ListingTooLong) else over_lines
    (lines_of text)

-- ---- the same in words on whole lines

-- each line passes its tests, one after the other, and they leave this plan
abbrev pub First : ℕ → List (List ℕ) → Plan → Plan → Type 0
First n [] p q = p ≡ q
First n (l ∷ ls) p q = (r : Plan) × (line_gives n (without_end l) p ≡ Ok r) × First (n + 1) ls r q

abbrev pub Second : Known → List Task → Machine → Machine → Type 0
Second k [] m q = m ≡ q
Second k (t ∷ ts) m q = (r : Machine) × (task_gives k t m ≡ Ok r) × Second k ts r q

-- the lines before the one at fault pass, and this is the first test that fails there
abbrev pub IsFault : ℕ → Kind → ListingFault → Type 0
IsFault n k f = f ≡ fault_at n k

abbrev pub FaultInFirst : ℕ → List (List ℕ) → Plan → ListingFault → Type 0
FaultInFirst n [] p f = ⊥
FaultInFirst n (l ∷ ls) p f =
    ((k : Kind) × (line_gives n (without_end l) p ≡ Err k) × IsFault n k f)
    ⊎ ((r : Plan) × (line_gives n (without_end l) p ≡ Ok r) × FaultInFirst (n + 1) ls r f)

abbrev pub FaultInSecond : Known → List Task → Machine → ListingFault → Type 0
FaultInSecond k [] m f = ⊥
FaultInSecond k (t ∷ ts) m f =
    ((e : Kind) × (task_gives k t m ≡ Err e) × IsFault t.line e f) ⊎
    ((r : Machine) × (task_gives k t m ≡ Ok r) × FaultInSecond k ts r f)

-- The text stands for the image: it is not too long, each line passes both readings, and there is a CPU.
pub record Stands (text : List ℕ) (image : Content) : Type 0 where
  pub plan : Plan
  pub machine : Machine
  pub size : nat_lt most_bytes (length text) ≡ false
  pub lines : nat_lt most_lines (length (lines_of text)) ≡ false
  pub first : First 1 (lines_of text) blank plan
  pub second : Second (known_in plan) plan.tasks (ready plan) machine
  pub some : (plan.cpus == 0) ≡ false
  pub is : image ≡ image_of plan.begins machine

-- the tests of the whole text and of its lines, in their order: each kind of first fault
pub data FirstFault (text : List ℕ) (f : ListingFault) : Type 0 where
  too_long : nat_lt most_bytes (length text) ≡ true → IsFault 0 ListingTooLong f → FirstFault text f
  too_many : nat_lt most_bytes (length text) ≡ false → nat_lt most_lines (length (lines_of text)) ≡ true →
      IsFault 0 TooManyLines f → FirstFault text f
  in_first : nat_lt most_bytes (length text) ≡ false → nat_lt most_lines (length (lines_of text)) ≡ false →
      FaultInFirst 1 (lines_of text) blank f → FirstFault text f
  in_second : nat_lt most_bytes (length text) ≡ false → nat_lt most_lines (length (lines_of text)) ≡ false →
      (p : Plan) → First 1 (lines_of text) blank p →
      FaultInSecond (known_in p) p.tasks (ready p) f → FirstFault text f
  no_cpu : nat_lt most_bytes (length text) ≡ false → nat_lt most_lines (length (lines_of text)) ≡ false →
      (p : Plan) → First 1 (lines_of text) blank p →
      (m : Machine) → Second (known_in p) p.tasks (ready p) m → (p.cpus == 0) ≡ true → IsFault 0 NoCpu f →
      FirstFault text f

-- ---- what the code answers

-- this image or this fault, unless memory ran out
abbrev pub IsOutcome : Result Content AssembleFault → Result Content ListingFault → Type 0
IsOutcome (Ok image) given = given ≡ Ok image
IsOutcome (Err ends.Memory) given = Unit {0}
IsOutcome (Err (ends.Listing f)) given = given ≡ Err f

abbrev pub HasFault : List ℕ → AssembleFault → Type 0
HasFault text ends.Memory = Unit {0}
HasFault text (ends.Listing f) = FirstFault text f
