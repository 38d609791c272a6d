mod SetLemmas
