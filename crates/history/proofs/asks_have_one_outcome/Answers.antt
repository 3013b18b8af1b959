use Rattle.std.proofs.Common.{◌∙◌, sym}
use Rattle.history.proofs.AsksLemmas.{IsAsk-one_call, IsAsk-one_state, AreEntries-one}
use Rattle.history.proofs.asks_have_one_outcome.Goals as goal

pub returns : goal.returns
returns g c =
    let r = g.M.Machine.rules in
    record {
      call = λ one old question answer call other new another first second. IsAsk-one_call r old question answer call other new another one first second;
      ask = λ one old question answer call other new another first second. IsAsk-one_state r old question answer call other new another (IsAsk-one_call r old question answer call other new another one first second) first second;
      made = λ one opening asks made others first second. AreEntries-one r opening asks made others one first second;
      state = λ opening history mine others state other first second. first.leads ∙ sym second.leads;
      places = λ opening history mine others state other first second. first.all ∙ sym second.all;
    }
