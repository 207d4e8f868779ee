mod RebuiltLemmas
