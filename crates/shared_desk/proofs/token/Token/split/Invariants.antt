-- the asks that are given away
use Rattle.shared_desk.proofs.token.Token.split.Given as goal

abbrev pub ghosts-cut : goal.ghosts-cut
ghosts-cut g a = record { asks = a._asks }
