use Rattle.std.proofs.Common.{refl}
use Rattle.std.specs.Fmt.{digits}
use Rattle.json.specs.Print.{escape_byte}
use Rattle.api_routes.proofs.wire_replies.own_reply.Goals as goal

pub returns-in-HeadFault : goal.returns-in-HeadFault
unfolding escape_byte digits
returns-in-HeadFault c = rw c.in-HeadFault.is refl

pub returns-in-NoLength : goal.returns-in-NoLength
unfolding escape_byte digits
returns-in-NoLength c = rw c.in-NoLength.is refl

pub returns-in-BodyTooLarge : goal.returns-in-BodyTooLarge
unfolding escape_byte digits
returns-in-BodyTooLarge c = rw c.in-BodyTooLarge.is refl

pub returns-in-HeadTooLarge : goal.returns-in-HeadTooLarge
unfolding escape_byte digits
returns-in-HeadTooLarge c = rw c.in-HeadTooLarge.is refl
