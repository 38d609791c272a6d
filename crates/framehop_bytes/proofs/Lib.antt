mod Halving
