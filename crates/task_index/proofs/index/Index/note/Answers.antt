use Rattle.std.proofs.Common.{refl}
use Rattle.task_index.proofs.IdLemmas.{other-ids}
use Rattle.task_index.proofs.PlacedLemmas.{ids_of}
use Rattle.task_index.proofs.index.Index.note.Goals as goal

pub returns-in_err-note_new : goal.returns-in_err-note_new
returns-in_err-note_new c = record {
  placed = c.note_new.ensures (ids_of c.args.rows.now) (other-ids c.args.creation.now.id c.args.rows.now c.requires.unknown) c.requires.index.placed;
  members = c.requires.index.members;
  due = c.requires.index.due;
  waiting = c.note_added.ensures c.args.rows.now c.requires.index.waiting;
  queued = c.requires.index.queued;
}

pub returns-in_err-note_member : goal.returns-in_err-note_member
returns-in_err-note_member c = record {
  placed = c.note_new.ensures (ids_of c.args.rows.now) (other-ids c.args.creation.now.id c.args.rows.now c.requires.unknown) c.requires.index.placed;
  members = c.note_member.ensures c.args.rows.now c.requires.index.members;
  due = c.requires.index.due;
  waiting = c.note_added.ensures c.args.rows.now c.requires.index.waiting;
  queued = c.requires.index.queued;
}

pub returns : goal.returns
returns c = record {
  placed = c.note_new.ensures (ids_of c.args.rows.now) (other-ids c.args.creation.now.id c.args.rows.now c.requires.unknown) c.requires.index.placed;
  members = c.note_member.ensures c.args.rows.now c.requires.index.members;
  due = c.reserve.ensures c.args.rows.now c.requires.index.due;
  waiting = c.note_added.ensures c.args.rows.now c.requires.index.waiting;
  queued = c.note_queued.ensures.same c.args.rows.now refl c.requires.index.queued;
}

pub returns-in_err-note_queued : goal.returns-in_err-note_queued
returns-in_err-note_queued c = record {
  placed = c.note_new.ensures (ids_of c.args.rows.now) (other-ids c.args.creation.now.id c.args.rows.now c.requires.unknown) c.requires.index.placed;
  members = c.note_member.ensures c.args.rows.now c.requires.index.members;
  due = c.requires.index.due;
  waiting = c.note_added.ensures c.args.rows.now c.requires.index.waiting;
  queued = c.note_queued.ensures.same c.args.rows.now refl c.requires.index.queued;
}
