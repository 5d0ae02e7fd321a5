-- The numbers that the getters give of a parse are those of the words, in the ranges of their arguments.
use Rattle.std.proofs.Common.{◌≡◌, ◌∙◌, ◌<◌, ◌≤◌, ap, ℕ, Bool, true, false, List, [], ◌∷◌, zero, suc}
use Rattle.std.proofs.Common.{length, Option, Some, None, is_some, refl, sym, subst, inl, inr, arith}
use Rattle.std.proofs.Common.{unwrap_or, option_map, Result, slice_get, true≢false}
use Rattle.std.specs.List.{All, slice_index_or}
use Rattle.std.specs.Borrow.{Bor}
use Rattle.std.specs.Prelude.{map, codes}
use Rattle.std.specs.Str.{bytes_eq}
use Rattle.std.specs.Str.Parse.{ExplainsUnsignedError, HasUnsignedDigitsIfOk, ParsesBool, ParsesUnsigned}
use Rattle.std.proofs.lemmas.Bool.{cases_lt}
use Rattle.std.proofs.lemmas.Slice.Eq.{bytes_eq-Decides}
use Rattle.std.specs.declared.num.ParseIntError.{ParseIntError}
use Rattle.clap.specs.Words.{Accepts, App, IsUnsignedIn, Text, args_of, found_of, groups_of}
use Rattle.clap.specs.Words.{matched_of, matches_of, one_of, one_text, read_as, reading_of, rule_of}
use Rattle.clap.specs.Words.{shape_of}
use Rattle.clap.specs.Built.{BuildsTo, IsAuto}
use Rattle.clap.specs.Facts.{Entry, EntryPasses, HasReading, IsGroupEntry, PassesArg, ValuesPass}
use Rattle.clap.specs.Facts.{parser_of_value}
use Rattle.clap.specs.Matches.{ReadsOne}
use Rattle.clap.specs.Simple.{has_simple_rules}
use Rattle.clap.specs.declared.builder.arg.Arg.{Arg}
use Rattle.clap.specs.declared.builder.command.Command.{Command}
use Rattle.clap.specs.declared.builder.value_parser.Reading.{Reading}
use Rattle.clap.specs.declared.builder.value_parser.Reading.TheVariants.{AsWritten}
use Rattle.clap.specs.declared.builder.value_parser.ValueParser.{ValueParser}
use Rattle.clap.specs.declared.builder.value_parser.ValueParser.TheVariants as parser
use Rattle.clap.specs.declared.parser.matches.ArgMatches.{ArgMatches}
use Rattle.clap.specs.declared.parser.matches.Found.{Found}
use Rattle.clap.specs.declared.parser.matches.MatchedArg.{MatchedArg}
use Rattle.clap.proofs.CallerLemmas.{entry_by_id}
use Rattle.clap.proofs.SimpleLemmas.{plain_fields, simple_groups}
use Rattle.clap.proofs.WalkLemmas.{both, one_text-rows}
use Rattle.ztx_words.specs.Parses.{EachHas, IsParse, IsReady, Reads}
use Rattle.ztx_words.specs.Words.{flag_in, number_in, number_of}
use Rattle.ztx_words.proofs.Others.{unlike}

differs : (s t : Text) → bytes_eq s t ≡ false → s ≡ t → ⊥
differs s t unlike same = true≢false (sym ((bytes_eq-Decides s t).1 same) ∙ unlike)

-- what each rule has, each argument has
each_argument : (id : Text) (reader : ValueParser) (xs : List Arg) → EachHas id reader (map rule_of xs)
    → All (λ x. bytes_eq x.id.now id ≡ true → x.value_parser ≡ Some reader) xs
each_argument id reader [] each k d lt = absurd (omega arith)
each_argument id reader (x ∷ xs) each zero d lt = each.0
each_argument id reader (x ∷ xs) each (suc k) d lt = each_argument id reader xs each.1 k d (omega arith)

-- an argument of the built command with the id has the reader
module _ (old new : Command) (builds : BuildsTo old new) (id : Text) (reader : ValueParser)
    (each : All (λ x. bytes_eq x.id.now id ≡ true → x.value_parser ≡ Some reader) (args_of old))
    (no_help : bytes_eq (codes "help") id ≡ false) (no_version : bytes_eq (codes "version") id ≡ false) where
  not_added : (x : Arg) → IsAuto x → bytes_eq x.id.now id ≡ true → ⊥
  not_added x (inl help) same = differs _ _ no_help (sym help ∙ (bytes_eq-Decides _ _).0 same)
  not_added x (inr version) same = differs _ _ no_version (sym version ∙ (bytes_eq-Decides _ _).0 same)

  built_reader : (k : ℕ) (x : Arg) → k < length (args_of new) → slice_index_or (args_of new) k x ≡ x
      → bytes_eq x.id.now id ≡ true → x.value_parser ≡ Some reader
  built_reader k x lt at same = elim (cases_lt k (length (args_of old))) [
    | inl under ↦
        let rules = (builds.kept k x under).1 in
        let given : (slice_index_or (args_of new) k x).value_parser ≡ Some reader = rules.parser reader
        (each k x under (rw (← rules.id, at) same)) in
        ap (λ (y : Arg). y.value_parser) (sym at) ∙ given
    | inr over ↦ absurd (not_added x (subst IsAuto at (builds.extra k x over lt)) same)
  ]

-- the first text of an entry whose values pass, and are read as they are written
first_passes : (P : Text → Type 0) (how : Reading) (vs : List (Bor Text)) (u : Text) → All (λ v. P v.now) vs
    → how ≡ AsWritten → option_map (λ s. read_as how s.now) (slice_get vs 0) ≡ Some u → P u
first_passes P how [] u all is first = cc
first_passes P how (v ∷ vs) u all is first =
    let written : Some (read_as AsWritten v.now) ≡ Some u =
    subst (λ (r : Reading). Some (read_as r v.now) ≡ Some u) is first in
    let same : v.now ≡ u = ap (λ (o : Option Text). unwrap_or o v.now) written in
    subst P same (all 0 v (omega arith))

-- the text of the id that a getter reads is a number in the range
module _ (c : Command) (f : Found) (id : Text) (low high : ℕ) (values : ValuesPass c f)
    (no_groups : groups_of c ≡ []) (named : bytes_eq [] id ≡ false)
    (reader : (k : ℕ) (x : Arg) → k < length (args_of c) → slice_index_or (args_of c) k x ≡ x
    → bytes_eq x.id.now id ≡ true → x.value_parser ≡ Some (parser.Unsigned low high)) where
  number_passes : (u : Text) → PassesArg c id u → IsUnsignedIn low high u
  number_passes u any =
      let is : any.1.value_parser ≡ Some (parser.Unsigned low high) =
      reader any.0 any.1 any.2 any.3 any.4.0 in
      subst (λ (o : Option ValueParser). Accepts any.1.ignore_case (parser_of_value o) u) is any.4.1

  read_as_written : (how : Reading) → HasReading c id how → how ≡ AsWritten
  read_as_written how any =
      let is : any.1.value_parser ≡ Some (parser.Unsigned low high) =
      reader any.0 any.1 any.2 any.3 any.4.0 in
      sym any.4.1 ∙ ap (λ (o : Option ValueParser). reading_of (parser_of_value o)) is

  no_group : (e : Entry) → e.0.now ≡ id → IsGroupEntry c e → e.1.is_group ≡ true → ⊥
  no_group e is known group = elim (known group) [
    | inl empty ↦ differs [] id named (sym empty ∙ is)
    | inr some ↦
        let bad : 0 < 0 = rw no_groups at some in
        absurd (omega arith)
  ]

  values_pass : (e : Entry) → e.0.now ≡ id → EntryPasses c e
      → All (λ v. IsUnsignedIn low high v.now) e.1.vals.items
  values_pass e is passes = elim passes.0 [
    | inl group ↦ absurd (no_group e is passes.3 group)
    | inr all ↦ λ k d lt.
        let v = slice_index_or e.1.vals.items k d in
        number_passes v.now (subst (λ (w : Text). PassesArg c w v.now) is (all k d lt))
  ]

  is_written : (e : Entry) → e.0.now ≡ id → EntryPasses c e → e.1.reading ≡ AsWritten
  is_written e is passes = elim passes.4 [
    | inl group ↦ absurd (no_group e is passes.3 group)
    | inr read ↦ read_as_written _ (subst (λ (w : Text). HasReading c w e.1.reading) is read)
  ]

  text_passes : (u : Text) → one_text f id ≡ Some u → IsUnsignedIn low high u
  text_passes u = go (matched_of f id) refl
    where
      go : (o : Option MatchedArg) → matched_of f id ≡ o → one_text f id ≡ Some u → IsUnsignedIn low high u
      go None none is = absurd (true≢false (sym (ap is_some (rw none at is))))
      go (Some x) some is =
          let entry = entry_by_id (EntryPasses c) f.entries.items id x values some in
          let same : entry.0.0.now ≡ id = (bytes_eq-Decides _ _).0 entry.2 in
          let first : option_map (λ s. read_as x.reading s.now) (slice_get x.vals.items 0) ≡ Some u =
          rw some at is in
          let all = subst (λ (y : MatchedArg). All (λ v. IsUnsignedIn low high v.now) y.vals.items) entry.1
          (values_pass entry.0 same entry.3) in
          let written = ap (λ (y : MatchedArg). y.reading) (sym entry.1) ∙ is_written entry.0 same entry.3 in
          first_passes (IsUnsignedIn low high) x.reading x.vals.items u all written first

-- `get_one` reads texts of numbers as `u64` does
abbrev pub Reads64 : List ℕ → Result ℕ ParseIntError → Type 0
Reads64 u read = ParsesUnsigned 64 10 u read × ExplainsUnsignedError 10 u read × HasUnsignedDigitsIfOk u read

-- a text that passed is read as the number that it stands for
number_read : (u : Text) (low high : ℕ) → IsUnsignedIn low high u → (read : Option ℕ)
    → ReadsOne Reads64 u read → read ≡ Some (number_of u)
number_read u low high passed None read = absurd (read.1.0 (passed.0, passed.1))
number_read u low high passed (Some n) read = ap Some read.0.1

-- what a getter gives of the id of an argument that reads numbers, in a parse
module _ {app : App} {words : List Text} {m : ArgMatches} {id : Text} {low high : ℕ} (ready : IsReady app)
    (parse : IsParse app words m) (reads : Reads app id (parser.Unsigned low high)) where
  passes : (u : Text) → one_text (found_of m) id ≡ Some u → IsUnsignedIn low high u
  passes u =
      let c = parse.command in
      let p = parse.parsed in
      let rules : has_simple_rules (shape_of c) ≡ true =
      subst (λ (a : App). has_simple_rules a.top ≡ true) (sym parse.is) ready.rules in
      let parts = both (shape_of c).is_plain _ rules in
      let plain = plain_fields c parts.0 in
      let groups = p.from.same_groups (simple_groups c parts.1) in
      let reader = parser.Unsigned low high in
      let each : All (λ x. bytes_eq x.id.now id ≡ true → x.value_parser ≡ Some reader) (args_of c) =
      each_argument id reader (args_of c)
      (subst (λ (a : App). EachHas id reader a.top.rules) (sym parse.is) reads.readers) in
      text_passes p.built (found_of m) id low high (p.parsed (p.from.globals ∙ plain.globals)).values
      (groups.1 ∙ plain.groups) reads.named
      (built_reader c p.built p.from id reader each reads.help reads.version) u

  module _ (read : Option ℕ) (none : one_text (found_of m) id ≡ None → read ≡ None)
      (some : (u : List ℕ) → one_text (found_of m) id ≡ Some u → ReadsOne Reads64 u read) where
    -- it is the number that the matches of the words have
    pub number_found : read ≡ number_in id (matches_of app words)
    number_found =
        let rows = one_text-rows (found_of m) id ∙ ap (one_of id) parse.rows in
        go (one_text (found_of m) id) refl ∙ ap (option_map number_of) rows
      where
        go : (o : Option Text) → one_text (found_of m) id ≡ o
            → read ≡ option_map number_of (one_text (found_of m) id)
        go None is = none is ∙ sym (ap (option_map number_of) is)
        go (Some u) is =
            number_read u low high (passes u is) read (some u is) ∙ sym (ap (option_map number_of) is)

    -- and lies in its range, as does another number of the range in its place
    pub number_ranged : (other : ℕ) → low ≤ other → other ≤ high
        → (low ≤ unwrap_or read other) × (unwrap_or read other ≤ high)
    number_ranged other above below = go (one_text (found_of m) id) refl
      where
        go : (o : Option Text) → one_text (found_of m) id ≡ o
            → (low ≤ unwrap_or read other) × (unwrap_or read other ≤ high)
        go None is = rw (none is) (above, below)
        go (Some u) is =
            let passed = passes u is in
            rw (number_read u low high passed read (some u is)) (passed.2, passed.3)

-- a text that is read as a flag is "true" or not
flag_read : (E : Type 0) (u : Text) (r : Option Bool) → ReadsOne {E = E} ParsesBool u r
    → unwrap_or r false ≡ bytes_eq u (codes "true")
flag_read E u None given = sym (unlike u (codes "true") given.1.0)
flag_read E u (Some true) is = sym ((bytes_eq-Decides _ _).1 is)
flag_read E u (Some false) is = rw is refl

abbrev is_true : Option Text → Bool
is_true o = unwrap_or (option_map (λ t. bytes_eq t (codes "true")) o) false

-- what a getter gives of the id of a flag in a parse is whether the words have the flag
pub flag_found : (E : Type 0) {app : App} {words : List Text} {m : ArgMatches} (id : Text)
    → IsParse app words m → (read : Option Bool) → (one_text (found_of m) id ≡ None → read ≡ None)
    → ((u : List ℕ) → one_text (found_of m) id ≡ Some u → ReadsOne {E = E} ParsesBool u read)
    → unwrap_or read false ≡ flag_in id (matches_of app words)
flag_found E {app} {words} {m} id parse read none some =
    go (one_text (found_of m) id) refl
    ∙ ap is_true (one_text-rows (found_of m) id ∙ ap (one_of id) parse.rows)
  where
    go : (o : Option Text) → one_text (found_of m) id ≡ o
        → unwrap_or read false ≡ is_true (one_text (found_of m) id)
    go None is = rw (none is, is) refl
    go (Some u) is = rw is (flag_read E u read (some u is))
