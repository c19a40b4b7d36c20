-- `codes::decide` meets its contract: a single arm says what the row of its code says, by computation, and behind them no code is left that has a name, so
-- the ranges are gaps. Assumes nothing.
use Rattle.entry.proofs.Rows.{named_decided, gap_decided, gap_behind_singles}
use Rattle.entry.specs.Codes.{table}
use Rattle.text.specs.Class.{between}
use mathlib.Core.Path.{refl}
use Rattle.entry.proofs.codes.decide.Goals as goal

pub returns-in-0 : goal.returns-in-0
unfolding table between
returns-in-0 c = named_decided c.in-0.is refl _ c.named.ensures

pub returns-in-1 : goal.returns-in-1
unfolding table between
returns-in-1 c = named_decided c.in-1.is refl _ c.named-in-1.ensures

pub returns-in-2 : goal.returns-in-2
unfolding table between
returns-in-2 c = named_decided c.in-2.is refl _ c.named-in-2.ensures

pub returns-in-3 : goal.returns-in-3
unfolding table between
returns-in-3 c = gap_decided c.args.code (rw c.in-3.is) _ c.unnamed.ensures

pub returns-in-4 : goal.returns-in-4
unfolding table between
returns-in-4 c = named_decided c.in-4.is refl _ c.named-in-4.ensures

pub returns-in-7 : goal.returns-in-7
unfolding table between
returns-in-7 c = named_decided c.in-7.is refl _ c.named-in-7.ensures

pub returns-in-8 : goal.returns-in-8
unfolding table between
returns-in-8 c = named_decided c.in-8.is refl _ c.named-in-8.ensures

pub returns-in-9 : goal.returns-in-9
unfolding table between
returns-in-9 c = named_decided c.in-9.is refl _ c.named-in-9.ensures

pub returns-in-10 : goal.returns-in-10
unfolding table between
returns-in-10 c = gap_decided c.args.code (rw c.in-10.is) _ c.unnamed-in-10.ensures

pub returns-in-11 : goal.returns-in-11
unfolding table between
returns-in-11 c = named_decided c.in-11.is refl _ c.named-in-11.ensures

pub returns-in-12 : goal.returns-in-12
unfolding table between
returns-in-12 c = named_decided c.in-12.is refl _ c.named-in-12.ensures

pub returns-in-13 : goal.returns-in-13
unfolding table between
returns-in-13 c = named_decided c.in-13.is refl _ c.named-in-13.ensures

pub returns-in-14 : goal.returns-in-14
unfolding table between
returns-in-14 c = named_decided c.in-14.is refl _ c.named-in-14.ensures

pub returns-in-15 : goal.returns-in-15
unfolding table between
returns-in-15 c = named_decided c.in-15.is refl _ c.named-in-15.ensures

pub returns-in-32 : goal.returns-in-32
unfolding table between
returns-in-32 c = named_decided c.in-32.is refl _ c.named-in-32.ensures

pub returns-in-33 : goal.returns-in-33
unfolding table between
returns-in-33 c = named_decided c.in-33.is refl _ c.named-in-33.ensures

pub returns-in-34 : goal.returns-in-34
unfolding table between
returns-in-34 c = named_decided c.in-34.is refl _ c.named-in-34.ensures

pub returns-in-35 : goal.returns-in-35
unfolding table between
returns-in-35 c = named_decided c.in-35.is refl _ c.named-in-35.ensures

pub returns-in-36 : goal.returns-in-36
unfolding table between
returns-in-36 c = named_decided c.in-36.is refl _ c.named-in-36.ensures

pub returns-in-37 : goal.returns-in-37
unfolding table between
returns-in-37 c = named_decided c.in-37.is refl _ c.named-in-37.ensures

pub returns-in-38 : goal.returns-in-38
unfolding table between
returns-in-38 c = named_decided c.in-38.is refl _ c.named-in-38.ensures

pub returns-in-39 : goal.returns-in-39
unfolding table between
returns-in-39 c = named_decided c.in-39.is refl _ c.named-in-39.ensures

pub returns-in-5-to-6 : goal.returns-in-5-to-6
unfolding table
returns-in-5-to-6 c = gap_decided _ (gap_behind_singles _ c.in-5-to-6.in_default-own.rest) _ c.unnamed-in-5-to-6.ensures

pub returns-in-16-to-31 : goal.returns-in-16-to-31
unfolding table
returns-in-16-to-31 c = gap_decided _ (gap_behind_singles _ c.in-16-to-31.in_default-own.rest) _ c.unnamed-in-16-to-31.ensures

pub returns-in-40-to-255 : goal.returns-in-40-to-255
unfolding table
returns-in-40-to-255 c = gap_decided _ (gap_behind_singles _ c.in-40-to-255.in_default-own.rest) _ c.unnamed-in-40-to-255.ensures
