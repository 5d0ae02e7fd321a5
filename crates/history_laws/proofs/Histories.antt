-- Of the legal histories of an image, one at most has a text.
use Rattle.std.proofs.Common.{◌≡◌, ℕ, ◌+◌, List, [], ◌∷◌, ◌++◌, length, Option, Some, None, refl, sym, ap, ap₂, ◌∙◌, arith}
use Rattle.std.proofs.Common.{append_assoc, length-append, subst}
use Rattle.std.specs.Prelude.{All}
use Rattle.std.proofs.lemmas.List.Elements.{All-head, All-tail}
use Rattle.tx_journal.specs.Content.{Content}
use Rattle.tx_journal.specs.Lines.{entry_text, history_text, words_text, line_of}
use Rattle.tx_journal.specs.Sound.{IsSound}
use Rattle.tx_journal.specs.declared.entries.Entry.{Entry}
use Rattle.tx_journal.proofs.Decimals.{SameCut, same_cut}
use Rattle.tx_serial.specs.Apply.{apply}
use Rattle.tx_serial.specs.Flat.{FlatState}
use Rattle.tx_serial.specs.History.{IsLegal, replay_from, on_some, start_of}
use Rattle.history_laws.specs.Fitting.{Fits}
use Rattle.history_laws.proofs.Endings.{line}
use Rattle.history_laws.proofs.Fitting.{one_fits}
use Rattle.std.proofs.lemmas.Option.{same_Some}

-- ---- where the first entry does not fit, none is

stuck : (es : List Entry) (g : FlatState) → replay_from es None ≡ Some g → ⊥
unfolding replay_from
stuck [] g is = absurd cc
stuck (e ∷ es) g is = stuck es g is

-- the first entry fits, and the others are applied behind it
pub record First (f : FlatState) (e : Entry) (es : List Entry) (g : FlatState) : Type 0 where
  pub next : FlatState
  pub fits : apply f e ≡ Some next
  pub rest : replay_from es (Some next) ≡ Some g

pub first : (f : FlatState) (e : Entry) (es : List Entry) (g : FlatState) → replay_from (e ∷ es) (Some f) ≡ Some g
    → First f e es g
unfolding replay_from
first f e es g is = by (apply f e) refl is
  where
    by : (o : Option FlatState) → apply f e ≡ o → replay_from es o ≡ Some g → First f e es g
    by None none rest = absurd (stuck es g rest)
    by (Some next) fits rest = record { next = next; fits = fits; rest = rest }

-- ---- texts

cut : (e : Entry) (es : List Entry)
    → history_text (e ∷ es) ≡ words_text (line_of e) ++ 10 ∷ history_text es
cut e es = append_assoc (words_text (line_of e)) (10 ∷ []) (history_text es)

not_none : (e : Entry) (es : List Entry) → history_text (e ∷ es) ≡ [] → ⊥
not_none e es is =
    absurd (omega (
      arith,
      ap (λ (t : List ℕ). length t) (sym (cut e es) ∙ is),
      length-append (words_text (line_of e)) (10 ∷ history_text es),
    ))

parts : (e d : Entry) (es ds : List Entry) → IsSound e → IsSound d
    → history_text (e ∷ es) ≡ history_text (d ∷ ds)
    → SameCut (words_text (line_of e)) (words_text (line_of d)) (history_text es) (history_text ds)
parts e d es ds s t is =
    same_cut 10 (words_text (line_of e)) (words_text (line_of d)) (history_text es) (history_text ds)
    (line e s) (line d t) (sym (cut e es) ∙ is ∙ cut d ds)

-- ---- histories

all_same : (f : FlatState) (some others : List Entry) (g h : FlatState) → replay_from some (Some f) ≡ Some g
    → replay_from others (Some f) ≡ Some h → All IsSound some → All IsSound others
    → history_text some ≡ history_text others → some ≡ others
all_same f [] [] g h a b s t is = refl
all_same f [] (d ∷ ds) g h a b s t is = absurd (not_none d ds (sym is))
all_same f (e ∷ es) [] g h a b s t is = absurd (not_none e es is)
all_same f (e ∷ es) (d ∷ ds) g h a b s t is =
    let sound = All-head IsSound e es s in
    let also = All-head IsSound d ds t in
    let one = first f e es g a in
    let two = first f d ds h b in
    let cuts = parts e d es ds sound also is in
    let same : e ≡ d = one_fits f e d sound also (one.next, one.fits) (two.next, two.fits)
    (ap (λ (w : List ℕ). w ++ 10 ∷ []) cuts.front) in
    let states : two.next ≡ one.next = same_Some _ _ (sym two.fits ∙ ap (apply f) (sym same) ∙ one.fits) in
    ap₂ (λ (x : Entry) (xs : List Entry). x ∷ xs) same
    (all_same one.next es ds g h one.rest (subst (λ (n : FlatState). replay_from ds (Some n) ≡ Some h) states two.rest)
    (All-tail IsSound e es s) (All-tail IsSound d ds t) cuts.behind)

pub one_history : (image : Content) (some others : List Entry) → IsLegal image some → IsLegal image others
    → All IsSound some → All IsSound others → history_text some ≡ history_text others → some ≡ others
one_history image some others a b s t is =
    all_same (start_of image) some others a.after b.after a.replayed b.replayed s t is
