use Rattle.bw_layout.proofs.FieldPlaces.{stands_1, stands_2, stands_3, stands_4, stands_5, stands_6, stands_7}
use Rattle.bw_layout.proofs.FieldPlaces.{loudness_stands}
use Rattle.std.proofs.Common.{arith}
use Rattle.bw_layout.proofs.place.field_place.Goals as goal

pub returns-in-1-clause-stands : goal.returns-in-1-clause-stands
returns-in-1-clause-stands c = rw c.in-1.is stands_1

pub returns-in-2-clause-stands : goal.returns-in-2-clause-stands
returns-in-2-clause-stands c = rw c.in-2.is stands_2

pub returns-in-3-clause-stands : goal.returns-in-3-clause-stands
returns-in-3-clause-stands c = rw c.in-3.is stands_3

pub returns-in-4-clause-stands : goal.returns-in-4-clause-stands
returns-in-4-clause-stands c = rw c.in-4.is stands_4

pub returns-in-5-clause-stands : goal.returns-in-5-clause-stands
returns-in-5-clause-stands c = rw c.in-5.is stands_5

pub returns-in-6-clause-stands : goal.returns-in-6-clause-stands
returns-in-6-clause-stands c = rw c.in-6.is stands_6

pub returns-in-7-clause-stands : goal.returns-in-7-clause-stands
returns-in-7-clause-stands c = rw c.in-7.is stands_7

pub returns-in-8-to-12-clause-stands : goal.returns-in-8-to-12-clause-stands
returns-in-8-to-12-clause-stands c = loudness_stands c.args.tag (omega arith) (omega arith)
