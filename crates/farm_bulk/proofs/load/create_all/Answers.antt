use Rattle.std.proofs.Common.{◌≡◌, ◌/◌, ◌%◌, refl, arith}
use Rattle.farm_bulk.proofs.LoadLemmas.{AreCreated-start, AreCreated-next, AreCreated-last, OnOk-map, draws_more, draws_last, room_left, spare_left, spare_more}
use Rattle.farm_bulk.proofs.load.create_all.Goals as goal

pub parts-init : goal.parts-init
parts-init c = (omega arith, refl, λ after left. AreCreated-start c.args.tasks c.args.generator.now c.args.desk.now.0 after left)

pub create_part-requires-clause-room : goal.create_part-requires-clause-room
create_part-requires-clause-room c = room_left c.args.tasks c.parts.part c.args.desk.now.1 c.parts.desk.1 c.ranges.tasks.fits c.parts.auto.part-end c.requires c.parts.invariant.0

pub returns-in_err-create_part-clause-spare : goal.returns-in_err-create_part-clause-spare
returns-in_err-create_part-clause-spare c =
    spare_left c.args.tasks c.parts.part c.args.desk.now.1 c.parts.desk.1 c.create_part.new.desk.1 c.ranges.tasks.fits c.parts.auto.part-end c.parts.invariant.0 c.create_part.ensures.spare

pub parts-preserved : goal.parts-preserved
parts-preserved c =
    let made = c.in_ok-create_part.ensures.created in (
      spare_more c.parts.part c.args.desk.now.1 c.parts.desk.1 c.create_part.new.desk.1 c.parts.invariant.0 c.create_part.ensures.spare,
      draws_more c.parts.part c.args.generator.now c.parts.generator c.create_part.new.generator c.parts.invariant.1 c.in_ok-create_part.ensures.drawn,
      λ after left. c.parts.invariant.2 after (AreCreated-next c.parts.part (c.args.tasks / 1000) (c.args.tasks % 1000) c.parts.generator c.create_part.new.generator c.parts.desk.0 c.create_part.new.desk.0 after made.0 c.parts-test.true c.in_ok-create_part.ensures.drawn made.1 left),
    )

pub create_part-requires-2-clause-room : goal.create_part-requires-2-clause-room
create_part-requires-2-clause-room c = room_left c.args.tasks c.parts.part c.args.desk.now.1 c.parts.desk.1 c.ranges.tasks.fits c.parts.auto.part-end c.requires c.parts.invariant.0

pub returns-clause-spare : goal.returns-clause-spare
returns-clause-spare c =
    spare_left c.args.tasks c.parts.part c.args.desk.now.1 c.parts.desk.1 c.create_part-2.new.desk.1 c.ranges.tasks.fits c.parts.auto.part-end c.parts.invariant.0 c.create_part-2.ensures.spare

pub returns-clause-created : goal.returns-clause-created
returns-clause-created c =
    let full : c.parts.part ≡ c.args.tasks / 1000 = omega (arith, c.parts-test.false, c.parts.auto.part-end) in
    OnOk-map c.create_part-2.result _ _
    (λ made. c.parts.invariant.2 c.create_part-2.new.desk.0 (AreCreated-last c.parts.part (c.args.tasks / 1000) (c.args.tasks % 1000) c.parts.generator c.parts.desk.0 c.create_part-2.new.desk.0 made.0 full made.1))
    c.create_part-2.ensures.created

pub returns-clause-drawn : goal.returns-clause-drawn
returns-clause-drawn c =
    let full : c.parts.part ≡ c.args.tasks / 1000 = omega (arith, c.parts-test.false, c.parts.auto.part-end) in
    OnOk-map c.create_part-2.result _ _ (λ drawn. draws_last c.args.tasks c.parts.part c.args.generator.now c.parts.generator c.create_part-2.new.generator full c.parts.invariant.1 drawn) c.create_part-2.ensures.drawn
