use Rattle.la_shared.proofs.shared.SharedAcceptor.offer_beyond.Given as goal

abbrev pub ghosts-record : goal.ghosts-record
ghosts-record g a = record { set = a.set.now; reply = a.reply.now }
