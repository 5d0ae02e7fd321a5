use Rattle.deck_laws.proofs.Pieces.{deck_is, written_shape, written_apart, written_alone, texts_alone}
use Rattle.deck_laws.proofs.laws.one_deck_of_the_written_shape.Goals as goal

pub returns : goal.returns
returns c = record {
  cards = deck_is;
  shape = written_shape;
  apart = written_apart;
  one = λ image is bytes deck small s. written_alone image is bytes deck small s;
  texts = λ image is bytes deck small pieces. texts_alone image is bytes deck small pieces;
}
