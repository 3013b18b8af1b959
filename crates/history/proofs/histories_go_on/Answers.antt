use Rattle.history.proofs.HistoriesLemmas.{end_state-append, IsLegal-append, IsLegal-front, IsLegal-back, calls_of-append, asked_at-append_left, reply_at-append_left}
use Rattle.history.proofs.histories_go_on.Goals as goal

pub returns : goal.returns
returns g c =
    let r = g.M.Machine.rules in
    record {
      legal = λ state first next. (λ whole. (IsLegal-front r state first next whole, IsLegal-back r state first next whole), λ parts. IsLegal-append r state first next parts.0 parts.1);
      ends = end_state-append r;
      calls = calls_of-append r;
      asked = asked_at-append_left r;
      replied = reply_at-append_left r;
    }
