-- Lines are those of one history, or one of them is the first that no entry has which fits.
use Rattle.std.proofs.Common.{◌≡◌, ℕ, zero, suc, ◌+◌, ◌<◌, ◌≤◌, List, [], ◌∷◌, ◌++◌, length, Some, refl, sym}
use Rattle.std.proofs.Common.{ap, ap₂, ◌∙◌, get_or, subst, arith, inl, inr}
use Rattle.std.specs.Prelude.{All, map, take}
use Rattle.std.proofs.Math.Seq.{take-length}
use Rattle.std.proofs.lemmas.Bool.{cases_lt}
use Rattle.std.proofs.lemmas.List.Elements.{All-head, All-tail}
use Rattle.tx_journal.specs.Content.{Content}
use Rattle.tx_journal.specs.Lines.{entry_text}
use Rattle.tx_journal.specs.Sound.{IsSound}
use Rattle.tx_journal.specs.declared.entries.Entry.{Entry}
use Rattle.tx_serial.specs.Apply.{apply}
use Rattle.tx_serial.specs.Flat.{FlatState}
use Rattle.tx_serial.specs.History.{replay_from, start_of}
use Rattle.history_laws.proofs.Fitting.{one_fits}
use Rattle.history_laws.proofs.Histories.{first}
use Rattle.tx_replay.specs.Replay.{IsReplay, NoneFits, IsFirstMisfit}
use Rattle.std.proofs.lemmas.Option.{same_Some}

-- ---- one history goes on where the other ends

-- the second is the first with more entries, which are applied behind it
record GoesOn (f : FlatState) (es ds : List Entry) (g h : FlatState) (more : List (List ℕ)) : Type 0 where
  tail : List Entry
  is : ds ≡ es ++ tail
  sound : All IsSound tail
  texts : map entry_text tail ≡ more
  rest : replay_from tail (Some g) ≡ Some h

heads : (x y : List ℕ) (xs ys : List (List ℕ)) → x ∷ xs ≡ y ∷ ys → x ≡ y
heads x y xs ys is = cc

tails : (x y : List ℕ) (xs ys : List (List ℕ)) → x ∷ xs ≡ y ∷ ys → xs ≡ ys
tails x y xs ys is = cc

unread : (f g : FlatState) → replay_from [] (Some f) ≡ Some g → f ≡ g
unfolding replay_from
unread f g is = same_Some _ _ is

goes_on : (f : FlatState) (es ds : List Entry) (g h : FlatState) (more : List (List ℕ))
    → replay_from es (Some f) ≡ Some g → replay_from ds (Some f) ≡ Some h → All IsSound es → All IsSound ds
    → map entry_text ds ≡ map entry_text es ++ more → GoesOn f es ds g h more
goes_on f [] ds g h more a b s t is = record {
  tail = ds;
  is = refl;
  sound = t;
  texts = is;
  rest = subst (λ (x : FlatState). replay_from ds (Some x) ≡ Some h) (unread f g a) b;
}
goes_on f (e ∷ es) [] g h more a b s t is = absurd cc
goes_on f (e ∷ es) (d ∷ ds) g h more a b s t is =
    let one = first f e es g a in
    let two = first f d ds h b in
    let text : entry_text e ≡ entry_text d = sym (heads _ _ _ _ is) in
    let same : e ≡ d =
    one_fits f e d (All-head IsSound e es s) (All-head IsSound d ds t) (one.next, one.fits)
    (two.next, two.fits) text in
    let states : two.next ≡ one.next = same_Some _ _ (sym two.fits ∙ ap (apply f) (sym same) ∙ one.fits) in
    let on =
    goes_on one.next es ds g h more one.rest
    (subst (λ (x : FlatState). replay_from ds (Some x) ≡ Some h) states two.rest)
    (All-tail IsSound e es s) (All-tail IsSound d ds t) (tails _ _ _ _ is) in
    record {
      tail = on.tail;
      is = ap₂ (λ (x : Entry) (xs : List Entry). x ∷ xs) (sym same) on.is;
      sound = on.sound;
      texts = on.texts;
      rest = on.rest;
    }

-- the first of the entries behind would fit
would_fit : (g h : FlatState) (tail : List Entry) (x : List ℕ) (more : List (List ℕ)) → All IsSound tail
    → map entry_text tail ≡ x ∷ more → replay_from tail (Some g) ≡ Some h → NoneFits g x → ⊥
would_fit g h [] x more s is rest none = cc
would_fit g h (e ∷ es) x more s is rest none =
    let one = first g e es h rest in
    none e (All-head IsSound e es s) (one.next, one.fits) (heads _ _ _ _ is)

-- ---- lines

-- so many lines, and one more behind them
take_more : (lines : List (List ℕ)) (a b : ℕ) → a < b → b ≤ length lines
    → (more : List (List ℕ)) × (take b lines ≡ take a lines ++ (get_or lines a [] ∷ more))
take_more [] a b less within = absurd (omega (arith, less, within))
take_more (l ∷ ls) zero zero less within = absurd (omega (arith, less))
take_more (l ∷ ls) zero (suc b) less within = (take b ls, refl)
take_more (l ∷ ls) (suc a) zero less within = absurd (omega (arith, less))
take_more (l ∷ ls) (suc a) (suc b) less within =
    let on = take_more ls a b (omega (arith, less)) (omega (arith, within)) in
    (on.0, ap (λ (xs : List (List ℕ)). l ∷ xs) on.1)

-- a history of more lines has an entry for the line that none has
beyond : (image : Content) (lines : List (List ℕ)) (a b : ℕ) (es ds : List Entry) (g h : FlatState)
    → a < b → b ≤ length lines → IsReplay image (take a lines) es g → IsReplay image (take b lines) ds h
    → NoneFits g (get_or lines a []) → ⊥
beyond image lines a b es ds g h less within some other none =
    let more = take_more lines a b less within in
    let on =
    goes_on (start_of image) es ds g h (get_or lines a [] ∷ more.0) some.replayed other.replayed some.sound
    other.sound
    (other.texts ∙ more.1
    ∙ ap (λ (xs : List (List ℕ)). xs ++ (get_or lines a [] ∷ more.0)) (sym some.texts)) in
    would_fit g h on.tail (get_or lines a []) more.0 on.sound on.texts on.rest none

pub never_both : (image : Content) (lines : List (List ℕ)) (entries : List Entry) (f : FlatState) (number : ℕ)
    → IsReplay image lines entries f → IsFirstMisfit image lines number → ⊥
never_both image lines entries f number all m =
    beyond image lines m.before (length lines) m.entries entries m.after f m.within (omega arith) m.replays
    (subst (λ (xs : List (List ℕ)). IsReplay image xs entries f) (sym (take-length lines)) all) m.none

pub one_misfit : (image : Content) (lines : List (List ℕ)) (m n : ℕ) → IsFirstMisfit image lines m
    → IsFirstMisfit image lines n → m ≡ n
one_misfit image lines m n some other =
    elim (cases_lt some.before other.before) [
      | inl low ↦
          let late = other.within in
          absurd (beyond image lines some.before other.before some.entries other.entries some.after
          other.after low (omega (arith, late)) some.replays other.replays some.none)
      | inr high ↦ elim (cases_lt other.before some.before) [
        | inl low ↦
            let late = some.within in
            absurd (beyond image lines other.before some.before other.entries some.entries other.after
            some.after low (omega (arith, late)) other.replays some.replays other.none)
        | inr least ↦
            let same : some.before ≡ other.before = omega (arith, high, least) in
            some.counted ∙ ap (λ k. k + 1) same ∙ sym other.counted
      ]
    ]

-- ---- one history

append_nil : (xs : List (List ℕ)) → xs ≡ xs ++ []
append_nil [] = refl
append_nil (x ∷ xs) = ap (λ (ys : List (List ℕ)). x ∷ ys) (append_nil xs)

no_more : (es tail : List Entry) → map entry_text tail ≡ [] → es ++ tail ≡ es
no_more [] [] is = refl
no_more (e ∷ es) [] is = ap (λ (xs : List Entry). e ∷ xs) (no_more es [] is)
no_more es (d ∷ ds) is = absurd cc

pub one_history : (image : Content) (lines : List (List ℕ)) (some others : List Entry) (f g : FlatState)
    → IsReplay image lines some f → IsReplay image lines others g → some ≡ others
one_history image lines some others f g a b =
    let on =
    goes_on (start_of image) some others f g [] a.replayed b.replayed a.sound b.sound
    (b.texts ∙ sym a.texts ∙ append_nil (map entry_text some)) in
    sym (on.is ∙ no_more some on.tail on.texts)
