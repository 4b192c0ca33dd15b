-- `kind_of` meets its contract, word by word. Assumes nothing.
use mathlib.Core.Path.{refl, sym}
use Rattle.lines.specs.Reading.{kind_of}
use Rattle.lines.proofs.Texts.{word_is}
use Rattle.lines.proofs.kind_of.Goals as goal

pub returns-then-eq : goal.returns-then-eq
unfolding kind_of
returns-then-eq c = sym (rw (word_is c.args.word.now _ _ c.as_slice.ensures c.if-eq.ensures) refl)

pub returns-then-eq-2 : goal.returns-then-eq-2
unfolding kind_of
returns-then-eq-2 c = sym (rw (word_is c.args.word.now _ _ c.as_slice.ensures c.if-eq.ensures, word_is c.args.word.now _ _ c.as_slice-2.ensures c.if-eq-2.ensures) refl)

pub returns-then-eq-3 : goal.returns-then-eq-3
unfolding kind_of
returns-then-eq-3 c = sym (rw (word_is c.args.word.now _ _ c.as_slice.ensures c.if-eq.ensures, word_is c.args.word.now _ _ c.as_slice-2.ensures c.if-eq-2.ensures, word_is c.args.word.now _ _ c.as_slice-3.ensures c.if-eq-3.ensures) refl)

pub returns-then-eq-4 : goal.returns-then-eq-4
unfolding kind_of
returns-then-eq-4 c = sym (rw (word_is c.args.word.now _ _ c.as_slice.ensures c.if-eq.ensures, word_is c.args.word.now _ _ c.as_slice-2.ensures c.if-eq-2.ensures, word_is c.args.word.now _ _ c.as_slice-3.ensures c.if-eq-3.ensures, word_is c.args.word.now _ _ c.as_slice-4.ensures c.if-eq-4.ensures) refl)

pub returns-then-eq-5 : goal.returns-then-eq-5
unfolding kind_of
returns-then-eq-5 c = sym (rw (word_is c.args.word.now _ _ c.as_slice.ensures c.if-eq.ensures, word_is c.args.word.now _ _ c.as_slice-2.ensures c.if-eq-2.ensures, word_is c.args.word.now _ _ c.as_slice-3.ensures c.if-eq-3.ensures, word_is c.args.word.now _ _ c.as_slice-4.ensures c.if-eq-4.ensures, word_is c.args.word.now _ _ c.as_slice-5.ensures c.if-eq-5.ensures) refl)

pub returns : goal.returns
unfolding kind_of
returns c = sym (rw (word_is c.args.word.now _ _ c.as_slice.ensures c.if-eq.ensures, word_is c.args.word.now _ _ c.as_slice-2.ensures c.if-eq-2.ensures, word_is c.args.word.now _ _ c.as_slice-3.ensures c.if-eq-3.ensures, word_is c.args.word.now _ _ c.as_slice-4.ensures c.if-eq-4.ensures, word_is c.args.word.now _ _ c.as_slice-5.ensures c.if-eq-5.ensures) refl)
