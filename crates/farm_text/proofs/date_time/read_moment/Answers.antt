use Rattle.std.proofs.Common.{◌≡◌, ◌∷◌, ◌++◌, ap, sym, subst, to_z, of_z, ◌∙◌, arith}
use Rattle.std.specs.Int.{w32}
use Rattle.farm_text.specs.DateTime.{IsDateTime, IsFullDate, IsOffset}
use Rattle.farm_text.proofs.DateTimeLemmas.{if_some, days_back, minutes_back}
use Rattle.farm_text.proofs.date_time.read_moment.Goals as goal

pub returns-in_err-days-clause-none : goal.returns-in_err-days-clause-none
returns-in_err-days-clause-none c = λ _ m w. c.in_err-days.ensures.only w.days w.date (84 ∷ (w.time ++ (w.fraction ++ w.zone))) w.is_date w.spelled

pub returns-in_err-seconds-clause-none : goal.returns-in_err-seconds-clause-none
returns-in_err-seconds-clause-none c = λ _ m w.
    let date = c.in_ok-days.ensures.only w.days w.date (84 ∷ (w.time ++ (w.fraction ++ w.zone))) w.is_date w.spelled in
    let mark = c.in_ok-after.ensures.only (w.time ++ (w.fraction ++ w.zone)) date.1 in
    c.in_err-seconds.ensures.only w.seconds w.time (w.fraction ++ w.zone) w.is_time mark

pub returns-in_err-thousandths-clause-none : goal.returns-in_err-thousandths-clause-none
returns-in_err-thousandths-clause-none c = λ _ m w.
    let date = c.in_ok-days.ensures.only w.days w.date (84 ∷ (w.time ++ (w.fraction ++ w.zone))) w.is_date w.spelled in
    let mark = c.in_ok-after.ensures.only (w.time ++ (w.fraction ++ w.zone)) date.1 in
    let time = c.in_ok-seconds.ensures.only w.seconds w.time (w.fraction ++ w.zone) w.is_time mark in
    c.in_err-thousandths.ensures.only w.thousandths w.offset w.fraction w.zone w.is_fraction w.is_zone time.1

pub returns-in_err-offset-clause-none : goal.returns-in_err-offset-clause-none
returns-in_err-offset-clause-none c = λ _ m w.
    let date = c.in_ok-days.ensures.only w.days w.date (84 ∷ (w.time ++ (w.fraction ++ w.zone))) w.is_date w.spelled in
    let mark = c.in_ok-after.ensures.only (w.time ++ (w.fraction ++ w.zone)) date.1 in
    let time = c.in_ok-seconds.ensures.only w.seconds w.time (w.fraction ++ w.zone) w.is_time mark in
    let fraction = c.in_ok-thousandths.ensures.only w.thousandths w.offset w.fraction w.zone w.is_fraction w.is_zone time.1 in
    let wrong = c.in_err-offset.ensures.only w.offset (rw fraction.1 w.is_zone) in
    grind (arith, wrong)

pub returns-clause-is : goal.returns-clause-is
returns-clause-is c =
    let (date, is_date, date_front) = c.in_ok-days.ensures.is in
    let (time, is_time, time_front) = c.in_ok-seconds.ensures.is in
    let (fraction, is_fraction, fraction_front) = c.in_ok-thousandths.ensures.is in
    let whole = date_front ∙ ap (λ t. date ++ t) (c.in_ok-after.ensures.is ∙ ap (λ t. 84 ∷ t) (time_front ∙ ap (λ t. time ++ t) fraction_front)) in
    let back_days = days_back c.in_ok-days.days c.in_ok-days.ensures.bound in
    let back_offset = minutes_back c.in_ok-offset.offset c.in_ok-offset.ensures.bound in
    let days = to_z w32 (of_z w32 c.in_ok-days.days) in
    let offset = to_z w32 (of_z w32 c.in_ok-offset.offset) in
    if_some {Q = λ m. IsDateTime m c.args.text.now} c.moment.result (λ m moment. record {
      days = days;
      seconds = c.in_ok-seconds.seconds;
      thousandths = c.in_ok-thousandths.thousandths;
      offset = offset;
      date = date;
      time = time;
      fraction = fraction;
      zone = c.in_ok-thousandths.rest.now;
      is_date = subst (λ z. IsFullDate z date) (sym back_days) is_date;
      is_time = is_time;
      is_fraction = is_fraction;
      is_zone = subst (λ z. IsOffset z c.in_ok-thousandths.rest.now) (sym back_offset) c.in_ok-offset.ensures.is;
      spelled = whole;
      moment = moment;
    }) c.moment.ensures.is

pub returns-clause-none : goal.returns-clause-none
returns-clause-none c = λ none m w.
    let date = c.in_ok-days.ensures.only w.days w.date (84 ∷ (w.time ++ (w.fraction ++ w.zone))) w.is_date w.spelled in
    let mark = c.in_ok-after.ensures.only (w.time ++ (w.fraction ++ w.zone)) date.1 in
    let time = c.in_ok-seconds.ensures.only w.seconds w.time (w.fraction ++ w.zone) w.is_time mark in
    let fraction = c.in_ok-thousandths.ensures.only w.thousandths w.offset w.fraction w.zone w.is_fraction w.is_zone time.1 in
    let zone = c.in_ok-offset.ensures.only w.offset (rw fraction.1 w.is_zone) in
    let shift : c.in_ok-offset.offset ≡ w.offset = grind (arith, zone) in
    let some = c.moment.ensures.only m (rw (days_back c.in_ok-days.days c.in_ok-days.ensures.bound, minutes_back c.in_ok-offset.offset c.in_ok-offset.ensures.bound, date.0, time.0, fraction.0, shift) w.moment) in
    grind (arith, none, some)

pub returns-in_err-days-clause-only : goal.returns-in_err-days-clause-only
returns-in_err-days-clause-only c = λ m w. absurd (c.in_err-days.ensures.only w.days w.date (84 ∷ (w.time ++ (w.fraction ++ w.zone))) w.is_date w.spelled)

pub returns-in_err-seconds-clause-only : goal.returns-in_err-seconds-clause-only
returns-in_err-seconds-clause-only c = λ m w.
    let date = c.in_ok-days.ensures.only w.days w.date (84 ∷ (w.time ++ (w.fraction ++ w.zone))) w.is_date w.spelled in
    let mark = c.in_ok-after.ensures.only (w.time ++ (w.fraction ++ w.zone)) date.1 in
    absurd (c.in_err-seconds.ensures.only w.seconds w.time (w.fraction ++ w.zone) w.is_time mark)

pub returns-in_err-thousandths-clause-only : goal.returns-in_err-thousandths-clause-only
returns-in_err-thousandths-clause-only c = λ m w.
    let date = c.in_ok-days.ensures.only w.days w.date (84 ∷ (w.time ++ (w.fraction ++ w.zone))) w.is_date w.spelled in
    let mark = c.in_ok-after.ensures.only (w.time ++ (w.fraction ++ w.zone)) date.1 in
    let time = c.in_ok-seconds.ensures.only w.seconds w.time (w.fraction ++ w.zone) w.is_time mark in
    absurd (c.in_err-thousandths.ensures.only w.thousandths w.offset w.fraction w.zone w.is_fraction w.is_zone time.1)

pub returns-in_err-offset-clause-only : goal.returns-in_err-offset-clause-only
returns-in_err-offset-clause-only c = λ m w.
    let date = c.in_ok-days.ensures.only w.days w.date (84 ∷ (w.time ++ (w.fraction ++ w.zone))) w.is_date w.spelled in
    let mark = c.in_ok-after.ensures.only (w.time ++ (w.fraction ++ w.zone)) date.1 in
    let time = c.in_ok-seconds.ensures.only w.seconds w.time (w.fraction ++ w.zone) w.is_time mark in
    let fraction = c.in_ok-thousandths.ensures.only w.thousandths w.offset w.fraction w.zone w.is_fraction w.is_zone time.1 in
    let wrong = c.in_err-offset.ensures.only w.offset (rw fraction.1 w.is_zone) in
    grind (arith, wrong)

pub returns-clause-only : goal.returns-clause-only
returns-clause-only c = λ m w.
    let date = c.in_ok-days.ensures.only w.days w.date (84 ∷ (w.time ++ (w.fraction ++ w.zone))) w.is_date w.spelled in
    let mark = c.in_ok-after.ensures.only (w.time ++ (w.fraction ++ w.zone)) date.1 in
    let time = c.in_ok-seconds.ensures.only w.seconds w.time (w.fraction ++ w.zone) w.is_time mark in
    let fraction = c.in_ok-thousandths.ensures.only w.thousandths w.offset w.fraction w.zone w.is_fraction w.is_zone time.1 in
    let zone = c.in_ok-offset.ensures.only w.offset (rw fraction.1 w.is_zone) in
    let shift : c.in_ok-offset.offset ≡ w.offset = grind (arith, zone) in
    c.moment.ensures.only m (rw (days_back c.in_ok-days.days c.in_ok-days.ensures.bound, minutes_back c.in_ok-offset.offset c.in_ok-offset.ensures.bound, date.0, time.0, fraction.0, shift) w.moment)
