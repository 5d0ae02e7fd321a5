-- The lines of the generator's listings, and what the first reading makes of them.
use Rattle.std.proofs.Common.{◌≡◌, ℕ, ◌+◌, ◌*◌, ◌%◌, ◌<◌, ◌≤◌, ◌^◌, true, false}
use Rattle.std.proofs.Common.{List, [], ◌∷◌, ◌++◌}
use Rattle.std.proofs.Common.{length, map, Some, None, refl, sym, ap, ap₂, ◌∙◌, arith, subst}
use Rattle.std.proofs.Common.{lit<, length-append}
use Rattle.std.specs.Prelude.{pos, Ok, ◌==◌, codes}
use Rattle.std.specs.Char.{to_ascii_uppercase}
use Rattle.std.specs.Fmt.{decimal}
use Rattle.std.proofs.lemmas.Fmt.{length-decimal-le}
use Rattle.z_text.specs.Line.{is_name, keeps_operands_whole}
use Rattle.z_operands.specs.Operations.{operation_named, size_of_row}
use Rattle.z_operands.specs.Values.{Table}
use Rattle.z_operands.specs.declared.operation.Operation.TheVariants.{Instruction}
use Rattle.z_reading.specs.Listing.{Plan, Task, line_gives, table_with, is_defined}
use Rattle.z_setup.specs.Machine.{Known}
use Rattle.listing_laws.proofs.Words.{Word, AreCut}
use Rattle.listing_laws.proofs.Lines.{field, IsSaid, is_label}
use Rattle.listing_laws.proofs.Numbers.{number, comma, number_cut, comma_cut}
use Rattle.listing_laws.proofs.Terms.{label_name, name_word, p_cut, l_cut, is_name_by, capital_by}
use Rattle.listing_laws.proofs.Placed.{IsFree, takes}
use Rattle.listing_laws.proofs.Again.{Goes, task}
use Rattle.listing_laws.proofs.Texts.{Line, written}
use Rattle.listing_laws.proofs.Spelled.{near_fits, near_short}

-- ---- lines of words

abbrev pub one_number : ℕ → List Word
one_number a = number a ∷ []

abbrev pub two_numbers : ℕ → ℕ → List Word
two_numbers a b = number a ∷ comma ∷ number b ∷ []

pub one_cut : (a : ℕ) → a < 10 ^ 10 → AreCut (one_number a)
one_cut a h = (number_cut a [] (near_fits a h) refl, tt)

pub two_cut : (a b : ℕ) → a < 10 ^ 10 → b < 10 ^ 10 → AreCut (two_numbers a b)
two_cut a b h k = (
  number_cut a (44 ∷ (decimal b ++ [])) (near_fits a h) refl,
  (
    comma_cut (decimal b ++ []),
    one_cut b k,
  ),
)

pub said_by : (label op : List ℕ) (ws : List Word) → is_label label ≡ true
    → map to_ascii_uppercase label ≡ label → length label ≤ 2
    → is_name op ≡ true → keeps_operands_whole op ≡ false → map to_ascii_uppercase op ≡ op → length op ≤ 8 →
    AreCut ws → length (field ws) ≤ 40
    → IsSaid label op ws
said_by label op ws named capital few op_named split op_capital op_few cut field_few = record {
  label_named = named;
  named = op_named;
  split = split;
  label_capital = capital;
  op_capital = op_capital;
  words = cut;
  short = omega (arith, length-append label (32 ∷ (op ++ field ws)), length-append op (field ws));
}

pub one_field : (a : ℕ) → a < 10 ^ 10 → length (field (one_number a)) ≤ 40
one_field a h = omega (arith, near_short a h, length-append (decimal a) [])

pub two_field : (a b : ℕ) → a < 10 ^ 10 → b < 10 ^ 10 → length (field (two_numbers a b)) ≤ 40
two_field a b h k =
    omega (
      arith,
      near_short a h,
      near_short b k,
      length-append (decimal a) (44 ∷ (decimal b ++ [])),
      length-append
          (decimal b) [],
    )

pub label_few : (letter n : ℕ) → n < 10 → length (label_name letter n) ≤ 2
label_few letter n h = let fits : n < 2 ^ 64 = omega arith in omega (
  arith,
  length-decimal-le 1 n (lit< tt) h
      fits,
)

pub name_of_p : (n : ℕ) → n < 10 → is_label (label_name 80 n) ≡ true
name_of_p n h = is_name_by 80 n h refl

pub name_of_l : (n : ℕ) → n < 10 → is_label (label_name 76 n) ≡ true
name_of_l n h = is_name_by 76 n h refl

-- ---- the lines

abbrev pub cpu_line_of : (i : ℕ) → i < 10 → Line
cpu_line_of i few = record {
  label = [];
  op = codes "CPU";
  ws = name_word 80 i ∷ [];
  said = said_by [] (codes "CPU") (name_word 80 i ∷ []) refl refl (omega arith) refl refl refl (omega arith)
      (p_cut i [] few refl, tt)
      (omega (arith, label_few 80 i few, length-append (label_name 80 i) []));
}

-- a line without a label, with one number or two, or none
abbrev pub bare : (op : List ℕ) → is_name op ≡ true → keeps_operands_whole op ≡ false
    → map to_ascii_uppercase op ≡ op → length op ≤ 8 → Line
bare op named split capital few = record {
  label = [];
  op = op;
  ws = [];
  said = said_by [] op [] refl refl
      (omega arith) named split capital few tt (omega arith);
}

abbrev pub with_one : (op : List ℕ) (a : ℕ) → is_name op ≡ true → keeps_operands_whole op ≡ false
    → map to_ascii_uppercase op ≡ op → length op ≤ 8
    → a < 10 ^ 10 → Line
with_one op a named split capital few h = record {
  label = [];
  op = op;
  ws = one_number a;
  said = said_by [] op (one_number a) refl refl (omega arith) named split capital few (one_cut a h)
      (one_field a h);
}

abbrev pub with_two : (label op : List ℕ) (a b : ℕ) → is_label label ≡ true
    → map to_ascii_uppercase label ≡ label → length label ≤ 2
    → is_name op ≡ true → keeps_operands_whole op ≡ false → map to_ascii_uppercase op ≡ op → length op ≤ 8 →
    a < 10 ^ 10 → b < 10 ^ 10 → Line
with_two label op a b named capital few op_named split op_capital op_few h k = record {
  label = label;
  op = op;
  ws = two_numbers a b;
  said = said_by label op (two_numbers a b) named capital few op_named split op_capital op_few (two_cut a b h
      k) (two_field a b h k);
}

abbrev pub show_line_of : (w : ℕ) → w < 10 ^ 10 → Line
show_line_of w h = with_two [] (codes "SHOW") 65536 w refl refl (omega arith) refl refl refl (omega arith)
    (lit< tt) h

abbrev pub end_line_of : Line
end_line_of = bare (codes "END") refl refl refl (omega arith)

module _ (i n a : ℕ) (few : i < 10) (n_few : n < 32768) (a_few : a < 524288) where
  pub n_short : n < 10 ^ 10
  n_short = omega arith

  pub a_short : a < 10 ^ 10
  a_short = omega arith

  abbrev pub lghi_line : Line
  lghi_line = with_two (label_name 80 i) (codes "LGHI") 2 n (name_of_p i few) (capital_by 80 i few refl)
      (label_few 80 i few) refl refl refl (omega arith) (lit< tt) n_short

  abbrev pub tbeginc_line : Line
  tbeginc_line = with_two (label_name 76 i) (codes "TBEGINC") 0 65280 (name_of_l i few) (capital_by 76 i few
      refl) (label_few 76 i few) refl refl refl (omega arith) (lit< tt) (lit< tt)

  abbrev pub lg_line : Line
  lg_line = with_two [] (codes "LG") 1 a refl refl (omega arith) refl refl refl (omega arith) (lit< tt)
      a_short

  abbrev pub aghi_line : Line
  aghi_line = with_two [] (codes "AGHI") 1 1 refl refl (omega arith) refl refl refl (omega arith) (lit< tt)
      (lit< tt)

  abbrev pub stg_line : Line
  stg_line = with_two [] (codes "STG") 1 a refl refl (omega arith) refl refl refl (omega arith) (lit< tt)
      a_short

  abbrev pub tend_line : Line
  tend_line = bare (codes "TEND") refl refl refl (omega arith)

  abbrev pub brctg_line : Line
  brctg_line = record {
    label = [];
    op = codes "BRCTG";
    ws = number 2 ∷ comma ∷ name_word 76 i ∷ [];
    said = said_by [] (codes "BRCTG") (number 2 ∷ comma ∷ name_word 76 i ∷ []) refl refl (omega arith) refl
        refl refl (omega arith) (
          number_cut 2 (44 ∷ (label_name 76 i ++ [])) (lit< tt) refl,
          (
            comma_cut (label_name 76 i ++ []),
            (l_cut i [] few refl, tt),
          ),
        )
        (omega (
          arith,
          label_few 76 i few,
          length-append (label_name 76 i) [],
          near_short 2 (lit< tt),
          length-append (decimal 2) (44 ∷ (label_name 76 i ++ [])),
        ));
  }

  abbrev pub svc_line : Line
  svc_line = with_one (codes "SVC") 0 refl refl refl (omega arith) (lit< tt)

  abbrev pub program_lines : List Line
  program_lines = lghi_line ∷ tbeginc_line ∷ lg_line ∷ aghi_line ∷ stg_line ∷ tend_line ∷ brctg_line ∷
      svc_line ∷ []

-- ---- the labels

-- where the program of a CPU begins, and its loop
abbrev pub start : ℕ → ℕ
start i = 16384 + 36 * i

abbrev pub loop : ℕ → ℕ
loop i = start i + 4

pub record HasProgram (labels : Table) (i : ℕ) : Type 0 where
  pub entry : labels (label_name 80 i) ≡ Some (pos (start i))
  pub loops : labels (label_name 76 i) ≡ Some (pos (loop i))

pub record HasNone (labels : Table) (i : ℕ) : Type 0 where
  pub entry : labels (label_name 80 i) ≡ None
  pub loops : labels (label_name 76 i) ≡ None

module _ (c : ℕ) (most : c ≤ 8) where
  -- the labels of all programs
  abbrev pub HasAll : Table → Type 0
  HasAll labels = (q : ℕ) → q < c → HasProgram labels q

  abbrev pub AllGo : Known → List Task → Type 0
  AllGo k [] = Unit {0}
  AllGo k (t ∷ ts) = Goes k t × AllGo k ts

  pub go_on : (k : Known) (ts : List Task) (t : Task) → AllGo k ts → Goes k t → AllGo k (ts ++ t ∷ [])
  go_on k [] t all one = (one, tt)
  go_on k (u ∷ ts) t all one = (all.0, go_on k ts t all.1 one)

  -- the lines so far leave this location, these labels and this number of CPUs, and lines that the second
  -- reading takes
  pub record Stage (h cpus : ℕ) (labels : Table) (p : Plan) : Type 0 where
    pub here : p.here ≡ h
    pub free : IsFree p
    pub open_yet : p.ended ≡ false
    pub count : p.cpus ≡ cpus
    pub names : p.labels ≡ labels
    pub tasks : (k : Known) → HasAll k.labels → AllGo k p.tasks

  odd_no : (h m : ℕ) → h ≡ 2 * m → (h % 2 == 1) ≡ false
  odd_no h m e = let even : h % 2 ≡ 0 = omega arith in ap (λ r. r == 1) even

  pub step : (l : Line) (row size n h m cpus : ℕ) (labels : Table) (p : Plan)
      → operation_named l.op ≡ Some (Instruction row None) → size_of_row row ≡ size → 0 < size → h ≡ 2 * m →
      16384 ≤ h → h + size ≤ 1048576
      → is_defined l.label labels ≡ false → Stage h cpus labels p
      → ((k : Known) → HasAll k.labels → Goes k (task l.label l.op l.ws l.said (Instruction row None) n h))
      → (r : Plan) × (line_gives n (written l) p ≡ Ok r) × Stage (h + size) cpus (table_with l.label (pos h)
      labels) r
  step l row size n h m cpus labels p named sized some even low high fresh s goes =
      let r = takes l.label l.op l.ws l.said row size n p named sized s.open_yet
      (ap (is_defined l.label) s.names ∙ fresh) (odd_no p.here m (s.here ∙ even)) some (omega (
        arith,
        s.here,
      )) (omega (arith, s.here)) s.free in
      let has = r.2 in (
        r.0,
        r.1,
        record {
          here = has.here ∙ ap (λ x. x + size) s.here;
          free = has.free;
          open_yet = has.ended ∙ s.open_yet;
          count = has.cpus ∙ s.count;
          names = has.labels ∙ ap₂ (λ (x : ℕ) (ls : Table). table_with l.label (pos x) ls) s.here s.names;
          tasks = λ k all. subst (AllGo k) (sym has.tasks)
              (go_on k p.tasks _ (s.tasks k all) (subst (λ x. Goes k (task l.label l.op l.ws l.said
              (Instruction row None) n x)) (sym s.here) (goes k all)));
        },
      )
